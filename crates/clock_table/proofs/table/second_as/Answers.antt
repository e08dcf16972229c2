use Rattle.std.proofs.Common.{ap, sym, ◌∙◌, arith}
use Rattle.clock_table.proofs.ReadSteps.{seconds}
use Rattle.clock_table.proofs.table.second_as.Goals as goal

pub load-requires : goal.load-requires
load-requires g c = let t = c.args.table.now in (
  c.seat.invariant.0 ∙ sym t.named,
  (let w = t.sized in let p = c.place.ensures in let l = c.requires.may.there in omega arith),
  rw c.place.ensures (seconds t.table.shared.key _ g.E.Tag.tag c.args.page _ _ (ap (λ b. b.cpus) t.opened) c.seat.inside.seat.me
      (rw c.seat.view_is c.requires.may) c.seat.invariant.2),
)
