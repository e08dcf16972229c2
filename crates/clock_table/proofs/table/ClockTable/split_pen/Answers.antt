use Rattle.std.proofs.Common.{sym, ◌∙◌, arith}
use Rattle.clock_table.proofs.SeatSteps.{splits_pen}
use Rattle.clock_table.proofs.table.ClockTable.split_pen.Goals as goal

pub split_seat-made-requires : goal.split_seat-made-requires
split_seat-made-requires g c = let t = c.args.self.now in (
  c.seat.invariant.0 ∙ sym t.named,
  (let w = t.sized in omega arith),
  splits_pen t.table.shared.key c.seat.inside.seat.id g.N.Name.passes c.seat.inside.seat.me.0 (rw c.seat.view_is c.requires.pen)
      (rw c.seat.view_is c.requires.meet) (rw c.seat.view_is c.requires.shut) c.seat.invariant.2 c.seat.invariant.3,
)
