use Rattle.std.proofs.Common.{sym, ◌≡◌, ◌≤◌, ◌∷◌, [], subst, refl}
use Rattle.pvclock_page.specs.declared.page.PageReply.{PageReply}
use Rattle.pvclock_page.specs.declared.page.ClockReply.TheVariants.{On}
use Rattle.board_history.specs.declared.entry.Entry.TheVariants.{Clamp}
use Rattle.clock_table.specs.Steps.{number_in}
use Rattle.shared_board.specs.declared.known.PassKnown.{PassKnown}
use Rattle.shared_board.specs.Passes.{Made, floor}
use Rattle.shared_board.specs.private.Seats.{known, HasClamped}
use Rattle.shared_board.proofs.Seats.{heard_rests, below_heard}
use Rattle.shared_board.proofs.Clocks.{clamp_known}
use Rattle.shared_board.proofs.shared.SharedBoard.clamp.Goals as goal

pub invariant_of-pass : goal.invariant_of-pass
invariant_of-pass g c =
    let v = c.pass.inside.seat in
    let e = Clamp (number_in v) c.args.cpu c.in-On.reading c.raise.result in (
      heard_rests c.pass.inside.number v c.raise.new.seat e c.pass.invariant.0 c.raise.ensures,
      below_heard g.N.Name.passes v c.raise.new.seat e c.raise.ensures c.pass.invariant.1,
    )

pub returns-in-On : goal.returns-in-On
returns-in-On g c =
    let n = c.pass.inside.number in
    let x = c.in-On.reading in
    let w = c.raise.new.seat in
    let t = subst (λ (z : PassKnown). Made z (known n w) (Clamp z.number c.args.cpu x c.raise.result ∷ []) × (w.misses ≡ z.misses)
    × (floor z ≤ c.raise.result)) c.pass.view_is
    (clamp_known n c.args.cpu x c.raise.result c.pass.inside.seat w c.pass.invariant.0 c.raise.ensures) in
    subst (λ (r : PageReply). HasClamped c.args.cpu r (On x c.raise.result) c.args.pass.now (known n w)) (sym c.in-On.is) (refl, t.0, t.1, t.2)
