use Rattle.std.proofs.Common.{Bool, cond, sym, ap, ◌∙◌}
use Rattle.trace_loop.specs.Progress.{limit_of}
use Rattle.trace_loop.proofs.lines.limit_of.Goals as goal

pub returns-then-starts_with : goal.returns-then-starts_with
unfolding limit_of
returns-then-starts_with c = ap (λ (b : Bool). cond b 200000 128) (sym c.if-starts_with.true ∙ c.starts_with.ensures)

pub returns-else-starts_with : goal.returns-else-starts_with
unfolding limit_of
returns-else-starts_with c = ap (λ (b : Bool). cond b 200000 128) (sym c.if-starts_with.false ∙ c.starts_with.ensures)
