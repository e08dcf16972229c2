use Rattle.std.proofs.Common.{sym, ◌∙◌, arith}
use Rattle.clock_table.proofs.SeatSteps.{joins}
use Rattle.clock_table.proofs.table.ClockTable.join.Goals as goal

pub join_seat-requires : goal.join_seat-requires
join_seat-requires g c = let t = c.args.self.now in
    let v = c.into.view_is in
    let w = c.gone.view_is in (
      c.into.invariant.0 ∙ sym t.named,
      c.gone.invariant.0 ∙ sym t.named,
      c.gone.invariant.1,
      (let w = t.sized in omega arith),
      joins t.table.shared.key c.into.inside.seat.id _ c.into.inside.seat.me.0 c.gone.inside.seat.me.0 (rw (
        v,
        w,
      ) c.requires.pen) (rw v c.requires.shut.0) (rw w c.requires.shut.1) (rw v c.requires.meet.0) (rw w c.requires.meet.1) c.into.invariant.2
          c.gone.invariant.2,
    )
