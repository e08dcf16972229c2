use Rattle.std.proofs.Common.{sym, ◌∙◌, arith}
use Rattle.clock_table.proofs.SeatSteps.{parts}
use Rattle.clock_table.proofs.table.ClockTable.front.Goals as goal

pub load-requires : goal.load-requires
load-requires g c = let t = c.args.self.now in (
  c.seat.invariant.0 ∙ sym t.named,
  (let w = t.sized in omega arith),
  parts t.table.shared.key _ c.seat.inside.seat.id c.seat.inside.seat.me,
)
