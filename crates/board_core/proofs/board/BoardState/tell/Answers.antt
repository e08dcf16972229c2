use Rattle.board_core.specs.Apics.{apics_in}
use Rattle.board_core.proofs.Kept.{hv-kept, apics-kept}
use Rattle.std.proofs.Common.{◌≡◌, ℕ, ◌+◌, ◌<◌, false, ap, sym, subst, ◌∙◌, arith}
use Rattle.board_types.specs.declared.access.Access.{Access}
use Rattle.board_types.specs.declared.parts.BoardParts.{BoardParts}
use Rattle.board_types.specs.declared.parts.TheConstants.{MOST_ACCESSES}
use Rattle.board_core.specs.Time.{devices_in}
use Rattle.board_core.specs.Access.{before_look, value_at}
use Rattle.board_core.specs.View.{board_parts_of}
use Rattle.board_core.specs.private.Kinds.{touches, writes}
use Rattle.board_core.proofs.Steps.{with_parts-is}
use Rattle.board_core.proofs.Kept.{devices-kept, rises-kept, number-kept, version-kept, processors-kept, value-told}
use Rattle.board_core.proofs.Joined.{IsJoined-counted}
use Rattle.board_core.proofs.board.BoardState.tell.Goals as goal

counted : (b : BoardParts) (cpu h : ℕ) (a : Access) → touches a ≡ false → writes a ≡ false
    → record b { accesses = b.accesses + 1 } ≡ before_look b cpu h a
counted b cpu h a untouched quiet =
    with_parts-is b cpu h a (devices_in b) b.wall_number b.wall_version b.processors b.rises b.hv (apics_in b) (sym (devices-kept a (devices_in b) untouched))
    (sym (number-kept a b.wall_number quiet)) (sym (version-kept a b.wall_version quiet))
    (sym (processors-kept b.anchor b.guest_khz cpu h a b.processors quiet)) (sym (rises-kept b a untouched))
    (sym (hv-kept b.anchor b.guest_khz cpu h a b.processors b.hv quiet)) (sym (apics-kept cpu a (apics_in b) quiet))

pub invariant_of-self : goal.invariant_of-self
invariant_of-self c =
    let few : c.self.inside.accesses < MOST_ACCESSES = subst (λ (b : BoardParts). b.accesses < MOST_ACCESSES) (sym c.self.view_is) c.requires.accesses in
    record {
      time = c.self.invariant.time;
      joined = IsJoined-counted (board_parts_of c.self.inside) c.self.invariant.joined few;
    }

pub returns-clause-state : goal.returns-clause-state
returns-clause-state c =
    counted (board_parts_of c.self.inside) c.args.cpu c.args.h c.args.a c.requires.untouched c.requires.quiet
    ∙ ap (λ (b : BoardParts). before_look b c.args.cpu c.args.h c.args.a) c.self.view_is

pub returns-clause-value : goal.returns-clause-value
returns-clause-value c =
    c.told.ensures
    ∙ value-told (board_parts_of c.self.inside) (c.self.inside.accesses + 1) c.args.cpu c.args.h c.args.a c.requires.untouched
    ∙ ap (λ (b : BoardParts). value_at b c.args.cpu c.args.h c.args.a) c.self.view_is

pub returns-clause-room : goal.returns-clause-room
returns-clause-room c = λ k less. omega (arith, c.self.invariant.joined.apics.due k less)
