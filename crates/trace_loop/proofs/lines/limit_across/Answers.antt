use Rattle.std.proofs.Common.{Bool, cond, sym, ap, ◌∙◌}
use Rattle.trace_loop.specs.Progress.{limit_of}
use Rattle.trace_loop.proofs.Progresses.{limit_fixed}
use Rattle.trace_loop.proofs.lines.limit_across.Goals as goal

pub returns-then-kept : goal.returns-then-kept
returns-then-kept c = c.limit_of-then-kept.ensures ∙ sym (limit_fixed c.args.kept.now c.args.rest.now c.if-kept.true)

pub returns-then-starts_across : goal.returns-then-starts_across
unfolding limit_of
returns-then-starts_across c = ap (λ (b : Bool). cond b 200000 128) (sym c.if-starts_across.true ∙ c.starts_across.ensures)

pub returns-else-starts_across : goal.returns-else-starts_across
unfolding limit_of
returns-else-starts_across c = ap (λ (b : Bool). cond b 200000 128) (sym c.if-starts_across.false ∙ c.starts_across.ensures)
