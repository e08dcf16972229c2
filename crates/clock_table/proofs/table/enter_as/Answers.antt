use Rattle.std.proofs.Common.{ap, sym, ◌∙◌, arith}
use Rattle.clock_table.proofs.WriteSteps.{enters}
use Rattle.clock_table.proofs.table.enter_as.Goals as goal

pub load-requires : goal.load-requires
load-requires g c = let t = c.args.table.now in (
  c.seat.invariant.0 ∙ sym t.named,
  (let w = t.sized in omega arith),
  enters t.table.shared.key _ _ c.seat.inside.seat.me g.E.Ask.entry (rw (c.seat.view_is, ← c.requires.entry) c.requires.may) c.seat.invariant.2
      (rw (ap (λ b. b.cpus) t.opened, ← c.requires.entry) c.requires.none),
)
