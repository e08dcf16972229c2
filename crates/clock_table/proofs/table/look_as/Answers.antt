use Rattle.std.proofs.Common.{sym, ◌∙◌, arith}
use Rattle.clock_table.specs.Calls.{MayRaise}
use Rattle.clock_table.proofs.ReadSteps.{looks}
use Rattle.clock_table.proofs.table.look_as.Goals as goal

pub load-requires : goal.load-requires
load-requires g c = let t = c.args.table.now in
    let me = c.seat.inside.seat.me in
    let may : MayRaise t.table.shared.key g.E.Tag.tag g.F.Tag.tag me.0 =
    rw (t.opened, c.seat.view_is, ← c.requires.cpu, ← c.requires.reading) c.requires.may in (
      c.seat.invariant.0 ∙ sym t.named,
      (let w = t.sized in omega arith),
      looks t.table.shared.key _ _ g.E.Tag.tag g.F.Tag.tag me may c.seat.invariant.2,
    )
