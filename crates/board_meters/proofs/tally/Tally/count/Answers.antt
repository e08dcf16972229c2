use Rattle.std.proofs.Common.{◌≡◌, ◌<◌, ℕ, Option, None, IfSome, IsTrue, arith, sym, subst, get_or}
use Rattle.board_types.specs.Legal.{is_legal}
use Rattle.board_types.specs.declared.parts.TheConstants.{LAST_VERSION}
use Rattle.board_meters.specs.declared.meters.Meters.{Meters}
use Rattle.board_meters.specs.Meters.{refusal_in}
use Rattle.host_counter.specs.Time.{HasTime}
use Rattle.board_meters.proofs.Taken.{taken_accesses, taken_wall, taken_hv, taken_page, taken_host}
use Rattle.board_meters.proofs.tally.Tally.count.Goals as goal

pub overflow_add-meters : goal.overflow_add-meters
overflow_add-meters c =
    let free = subst (λ (m : Meters). refusal_in m c.args.cpu c.args.h c.args.a ≡ None) (sym c.self.view_is) c.requires.free in
    let less = taken_accesses c.self.inside.meters c.args.cpu c.args.h c.args.a free in
    omega arith

pub wall_version_after-meters-requires : goal.wall_version_after-meters-requires
wall_version_after-meters-requires c =
    taken_wall c.self.inside.meters c.args.cpu c.args.h c.args.a
    (subst (λ (m : Meters). refusal_in m c.args.cpu c.args.h c.args.a ≡ None) (sym c.self.view_is) c.requires.free)

pub hv_version_after-meters-requires : goal.hv_version_after-meters-requires
hv_version_after-meters-requires c =
    taken_hv c.self.inside.meters c.args.cpu c.args.h c.args.a
    (subst (λ (m : Meters). refusal_in m c.args.cpu c.args.h c.args.a ≡ None) (sym c.self.view_is) c.requires.free)

pub raise_page-requires : goal.raise_page-requires
raise_page-requires c =
    let m = c.self.inside.meters in
    subst (λ (o : Option ℕ). IfSome o (λ k. (k < 64) × (get_or m.versions k 0 < LAST_VERSION))) (sym c.published_by.ensures)
    (taken_page m c.args.cpu c.args.h c.args.a
    (subst (λ (m : Meters). refusal_in m c.args.cpu c.args.h c.args.a ≡ None) (sym c.self.view_is) c.requires.free)
    (subst (λ (m : Meters). c.args.cpu < m.cpus) (sym c.self.view_is) c.requires.cpu)
    (subst (λ (m : Meters). IsTrue (is_legal m.cpus m.format c.args.a)) (sym c.self.view_is) c.requires.legal)
    c.self.invariant.few)

pub invariant_of-self : goal.invariant_of-self
invariant_of-self c =
    let m = c.self.inside.meters in
    record {
      rate = c.self.invariant.rate;
      time = subst (HasTime m.anchor) (sym c.max-meters.ensures)
          (taken_host m c.args.cpu c.args.h c.args.a
          (subst (λ (m : Meters). refusal_in m c.args.cpu c.args.h c.args.a ≡ None) (sym c.self.view_is) c.requires.free) c.self.invariant.time);
      few = c.self.invariant.few;
    }
