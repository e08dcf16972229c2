use Rattle.std.proofs.Common.{IsTrue}
use Rattle.board_types.specs.Legal.{is_legal}
use Rattle.board_core.specs.Apics.{apics_in, apics_acted}
use Rattle.board_core.proofs.Joined.{IsHv-after}
use Rattle.board_core.proofs.ApicTimers.{AreApics-acted}
use Rattle.std.proofs.Common.{false, ◌≡◌, ◌+◌, ◌<◌, ◌≤◌, IfSome, ap, sym, subst, ◌∙◌, arith}
use Rattle.board_types.specs.declared.parts.BoardParts.{BoardParts}
use Rattle.board_types.specs.declared.parts.TheConstants.{LAST_VERSION, MOST_ACCESSES}
use Rattle.board_core.specs.Time.{devices_in, now_of}
use Rattle.host_counter.specs.Time.{HasTime}
use Rattle.board_meters.specs.Published.{published_by}
use Rattle.board_core.specs.Refusals.{meters_of}
use Rattle.board_meters.specs.Meters.{raised_in}
use Rattle.board_core.specs.Access.{before_look}
use Rattle.board_core.specs.Hv.{hv_after}
use Rattle.board_core.specs.Conditions.{IsJoined, AreApics}
use Rattle.local_apics.specs.declared.parts.ApicsParts.{ApicsParts}
use Rattle.local_apics.specs.Places.{line_at}
use Rattle.board_core.specs.View.{board_parts_of}
use Rattle.board_core.specs.private.Kinds.{touches}
use Rattle.board_core.proofs.Kept.{writes-untouched, devices-kept, rises-kept, due-kept, lifts-kept}
use Rattle.board_core.proofs.Steps.{with_parts, with_parts-is}
use Rattle.board_core.proofs.Metered.{raised-wall, raised-hv, raised-pages}
use Rattle.board_meters.proofs.Publishing.{legal-page}
use Rattle.board_core.proofs.Joined.{most-cpus, IsWall-after, AreProcessors-after, IsJoined-acted}
use Rattle.board_core.proofs.board.BoardState.write_for.Goals as goal

-- the board that the access finds
abbrev seen : goal.After-act_on_apics → BoardParts
seen c = board_parts_of c.self.inside

untouched : (c : goal.After-act_on_apics) → touches c.args.a ≡ false
untouched c = writes-untouched c.args.a c.requires.writes

version_is : (c : goal.After-act_on_apics)
    → IfSome (raised_in (meters_of (seen c)) c.args.cpu c.args.a) (λ v. v < LAST_VERSION)
version_is c = subst
    (λ (b : BoardParts). IfSome (raised_in (meters_of b) c.args.cpu c.args.a) (λ v. v < LAST_VERSION))
    (sym c.self.view_is) c.requires.taken.version

place_is : (c : goal.After-act_on_apics) → IfSome (published_by c.args.cpu c.args.a) (λ k. k < c.self.inside.cpus)
place_is c = subst (λ (b : BoardParts). IfSome (published_by c.args.cpu c.args.a) (λ k. k < b.cpus)) (sym c.self.view_is)
    (legal-page c.args.self.now.cpus c.args.self.now.format c.args.cpu c.args.a c.requires.taken.cpu c.requires.taken.legal)

hv_is : (c : goal.After-act_on_apics)
    → c.hv_after-self-inside.result ≡ hv_after (seen c).anchor (seen c).guest_khz c.args.cpu c.args.h c.args.a (seen c).processors (seen c).hv
hv_is c =
    c.hv_after-self-inside.ensures
    ∙ ap (λ (b : BoardParts). hv_after b.anchor b.guest_khz c.args.cpu c.args.h c.args.a b.processors b.hv) (sym c.self.view_is)

state_is : (c : goal.After-act_on_apics) → with_parts (seen c) (devices_in (seen c)) c.wall_number_after-self-inside.result
    c.wall_version_after-self-inside.result c.publish_by.new.processors (seen c).rises c.hv_after-self-inside.result c.act_on_apics.new.apics
    ≡ before_look (seen c) c.args.cpu c.args.h c.args.a
state_is c =
    with_parts-is (seen c) c.args.cpu c.args.h c.args.a (devices_in (seen c)) c.wall_number_after-self-inside.result c.wall_version_after-self-inside.result
    c.publish_by.new.processors (seen c).rises c.hv_after-self-inside.result c.act_on_apics.new.apics
    (sym (devices-kept c.args.a (devices_in (seen c)) (untouched c))) c.wall_number_after-self-inside.ensures c.wall_version_after-self-inside.ensures
    c.publish_by.ensures (sym (rises-kept (seen c) c.args.a (untouched c))) (hv_is c) c.act_on_apics.ensures

few_in : (c : goal.After-act_on_apics) → c.self.inside.cpus ≤ 64
few_in c = most-cpus c.self.inside.format c.self.inside.cpus c.self.inside.devices.hpet.timers c.self.invariant.joined.format

-- the timers that it leaves
apics_are : (c : goal.After-act_on_apics) → AreApics (seen c).format (seen c).cpus (now_of (seen c) + (seen c).accesses)
    (apics_acted c.args.cpu c.args.a (apics_in (seen c)))
apics_are c =
    AreApics-acted (seen c).format (seen c).cpus (now_of (seen c) + (seen c).accesses) c.args.cpu c.args.a (apics_in (seen c))
    (subst (λ (b : BoardParts). c.args.cpu < b.cpus) (sym c.self.view_is) c.requires.taken.cpu) (few_in c)
    (subst (λ (b : BoardParts). IsTrue (is_legal b.cpus b.format c.args.a)) (sym c.self.view_is) c.requires.taken.legal) c.self.invariant.joined.apics

pub returns-clause-room : goal.returns-clause-room
returns-clause-room c = λ k less. omega (arith, ap (λ (x : ApicsParts). (line_at k x).counts.due) c.act_on_apics.ensures, (apics_are c).due k less)

pub invariant_of-self : goal.invariant_of-self
invariant_of-self c = record {
  time = c.self.invariant.time;
  joined = subst IsJoined (sym (state_is c)) (IsJoined-acted (seen c) c.args.cpu c.args.h c.args.a c.self.invariant.joined few (omega arith)
      (IsWall-after c.args.a c.self.inside.wall_number c.self.inside.wall_version c.self.inside.wall_nsec
      (raised-wall (seen c) c.args.cpu c.args.a (version_is c))
      c.self.invariant.joined.wall)
      (AreProcessors-after c.self.inside.anchor c.self.inside.guest_khz c.self.inside.cpus c.args.h c.args.a c.self.inside.processors (omega arith)
      (few_in c)
      c.self.invariant.joined.processors time c.args.cpu (place_is c)
      (raised-pages (seen c) c.args.cpu c.args.a (version_is c)))
      (IsHv-after c.self.inside.anchor c.self.inside.format c.self.inside.guest_khz c.self.inside.cpus c.args.cpu c.args.h c.args.a c.self.inside.processors
      c.self.inside.hv c.self.invariant.joined.rates.guest inside legal
      (raised-hv (seen c) c.args.cpu c.args.a (version_is c)) c.self.invariant.joined.hv)
      (apics_are c) (due-kept c.args.a (devices_in (seen c)) (untouched c)) (lifts-kept (seen c) c.args.a (untouched c)));
}
  where
    few : c.self.inside.accesses < MOST_ACCESSES
    few = subst (λ (b : BoardParts). b.accesses < MOST_ACCESSES) (sym c.self.view_is) c.requires.taken.accesses

    inside : c.args.cpu < c.self.inside.cpus
    inside = subst (λ (b : BoardParts). c.args.cpu < b.cpus) (sym c.self.view_is) c.requires.taken.cpu

    legal : IsTrue (is_legal c.self.inside.cpus c.self.inside.format c.args.a)
    legal = subst (λ (b : BoardParts). IsTrue (is_legal b.cpus b.format c.args.a)) (sym c.self.view_is) c.requires.taken.legal

    time : HasTime c.self.inside.anchor c.args.h
    time = subst (λ (b : BoardParts). HasTime b.anchor c.args.h) (sym c.self.view_is) c.requires.taken.time

pub returns-clause-state : goal.returns-clause-state
returns-clause-state c = state_is c ∙ ap (λ (b : BoardParts). before_look b c.args.cpu c.args.h c.args.a) c.self.view_is

pub hv_after-self-inside-requires-clause-version : goal.hv_after-self-inside-requires-clause-version
hv_after-self-inside-requires-clause-version c = raised-hv c.args.self.now c.args.cpu c.args.a c.requires.taken.version

pub wall_version_after-self-inside-requires : goal.wall_version_after-self-inside-requires
wall_version_after-self-inside-requires c =
    raised-wall (board_parts_of c.self.inside) c.args.cpu c.args.a
    (subst (λ (b : BoardParts). IfSome (raised_in (meters_of b) c.args.cpu c.args.a) (λ v. v < LAST_VERSION)) (sym c.self.view_is) c.requires.taken.version)

pub publish_by-requires-clause-version : goal.publish_by-requires-clause-version
publish_by-requires-clause-version c =
    raised-pages (board_parts_of c.self.inside) c.args.cpu c.args.a
    (subst (λ (b : BoardParts). IfSome (raised_in (meters_of b) c.args.cpu c.args.a) (λ v. v < LAST_VERSION)) (sym c.self.view_is) c.requires.taken.version)
