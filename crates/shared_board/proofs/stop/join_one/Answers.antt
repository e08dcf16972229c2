use Rattle.std.proofs.Common.{◌≡◌, ◌++◌, ◌∷◌, [], ap, ◌∙◌, subst}
use Rattle.clock_table.specs.declared.view.View.{View}
use Rattle.clock_table.specs.Steps.{met, parted, MeetTold}
use Rattle.shared_board.specs.declared.known.PassKnown.{PassKnown}
use Rattle.shared_board.specs.private.Seats.{IsJoining}
use Rattle.shared_board.proofs.Ends.{joining_next}
use Rattle.shared_board.proofs.stop.join_one.Goals as goal

pub returns : goal.returns
returns g c ps first j =
    let v = c.args.seat.now in
    let w = c.pass.inside.seat in
    let is : c.front.new.seat ≡ parted (met v w) = c.front.ensures.view ∙ ap parted c.join.ensures in
    let told : MeetTold (met v w) c.front.result = subst (λ (u : View). MeetTold u c.front.result) c.join.ensures c.front.ensures.told in
    subst (λ (p : PassKnown). IsJoining g.N.Name.passes (ps ++ p ∷ []) first c.front.new.seat) c.pass.view_is
    (joining_next g.N.Name.passes c.pass.inside.number c.front.result ps first v w c.front.new.seat c.pass.invariant.0 is told j)
