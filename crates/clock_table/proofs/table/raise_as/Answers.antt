use Rattle.std.proofs.Common.{sym, ◌∙◌, arith}
use Rattle.clock_table.specs.Calls.{MayRaise}
use Rattle.clock_table.proofs.ReadSteps.{raises}
use Rattle.clock_table.proofs.table.raise_as.Goals as goal

pub fetch_max-found-requires : goal.fetch_max-found-requires
fetch_max-found-requires g c = let t = c.args.table.now in
    let me = c.seat.inside.seat.me in
    let may : MayRaise t.table.shared.key g.E.Tag.tag c.args.x me.0 = rw (t.opened, c.seat.view_is, ← c.requires.cpu) c.requires.may in (
      c.seat.invariant.0 ∙ sym t.named,
      (let w = t.sized in omega arith),
      raises t.table.shared.key _ _ g.E.Tag.tag c.args.x me may c.seat.invariant.2,
    )
