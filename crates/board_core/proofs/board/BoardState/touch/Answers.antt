use Rattle.board_types.specs.declared.parts.HvParts.{HvParts}
use Rattle.board_core.specs.Conditions.{IsHv, AreApics}
use Rattle.board_core.specs.Hv.{hv_after}
use Rattle.local_apics.specs.declared.parts.ApicsParts.{ApicsParts}
use Rattle.board_core.specs.Apics.{apics_in, apics_acted}
use Rattle.board_core.proofs.Kept.{hv-kept, apics-kept}
use Rattle.std.proofs.Common.{rules, false, ◌≡◌, ℕ, ◌+◌, ◌<◌, ◌≤◌, List, ◌++◌, drop, ap, sym, subst, ◌∙◌, arith}
use Rattle.std.proofs.Math.Seq.{drop-append_seam}
use Rattle.irq_edges.specs.declared.edges.Edge.{Edge}
use Rattle.board_types.specs.declared.parts.BoardParts.{BoardParts}
use Rattle.board_types.specs.declared.parts.ProcessorParts.{ProcessorParts}
use Rattle.board_types.specs.declared.parts.TheConstants.{MOST_ACCESSES}
use Rattle.board_devices.specs.declared.act.Act.{Act}
use Rattle.board_devices.specs.declared.parts.DeviceParts.{DeviceParts}
use Rattle.board_devices.specs.Act.{acted, act_edges, value_of}
use Rattle.board_devices.specs.Places.{line_at}
use Rattle.board_devices.specs.Lines.{levels}
use Rattle.board_devices.specs.Rises.{lifts, one_if}
use Rattle.board_core.specs.Time.{devices_in, now_of}
use Rattle.board_core.specs.Wall.{wall_number_after}
use Rattle.board_core.specs.Rises.{rises_after}
use Rattle.board_core.specs.Access.{act_of, own_edges, before_look}
use Rattle.board_core.specs.Conditions.{IsWall, AreProcessors, IsJoined}
use Rattle.board_core.specs.View.{board_parts_of}
use Rattle.board_core.proofs.Steps.{with_parts, with_parts-is}
use Rattle.irq_edges.specs.Lines.{line_numbers, level_of}
use Rattle.board_meters.specs.Published.{wall_version_after}
use Rattle.board_core.specs.Pages.{processors_after}
use Rattle.board_core.specs.private.Kinds.{writes}
use Rattle.board_core.proofs.Kept.{touches-quiet, number-kept, version-kept, processors-kept}
use Rattle.board_core.proofs.Joined.{IsJoined-acted}
use Rattle.board_core.proofs.board.BoardState.touch.Goals as goal

pub act-word-requires : goal.act-word-requires
act-word-requires c = record {
  legal = search rules;
  room = omega (
    arith,
    c.self.invariant.joined.due 0 (omega arith),
    c.self.invariant.joined.accesses,
    c.self.invariant.joined.time.range,
    c.self.invariant.time,
  );
  places = c.requires.places;
}

-- the board that the access finds
abbrev seen : goal.After-count_rises → BoardParts
seen c = board_parts_of c.self.inside

acted_is : (c : goal.After-count_rises) → c.act-word.new.self ≡ acted (act_of c.args.a.now) (devices_in (seen c))
acted_is c = c.act-word.ensures.acted.state ∙ ap (λ (x : Act). acted x c.self.inside.devices) c.act_of.ensures

edges_are : (c : goal.After-count_rises) → c.act-word.new.edges ≡ c.args.edges.now ++ own_edges (seen c) c.args.a.now
edges_are c =
    c.act-word.ensures.acted.edges
    ∙ ap (λ (x : Act). c.args.edges.now ++ act_edges c.self.inside.time_ns x c.self.inside.devices) c.act_of.ensures
    ∙ ap (λ (t : ℕ). c.args.edges.now ++ act_edges t (act_of c.args.a.now) c.self.inside.devices) c.self.invariant.time

own_are : (c : goal.After-count_rises) → drop c.len-before.result c.act-word.new.edges ≡ own_edges (seen c) c.args.a.now
own_are c =
    ap (drop c.len-before.result) (edges_are c)
    ∙ ap (λ (n : ℕ). drop n (c.args.edges.now ++ own_edges (seen c) c.args.a.now)) c.len-before.ensures.value
    ∙ drop-append_seam c.args.edges.now (own_edges (seen c) c.args.a.now)

rises_are : (c : goal.After-count_rises) → c.count_rises.new.rises ≡ rises_after c.self.inside.format (own_edges (seen c) c.args.a.now) c.self.inside.rises
rises_are c = c.count_rises.ensures ∙ ap (λ (es : List Edge). rises_after c.self.inside.format es c.self.inside.rises) (own_are c)

-- the devices as the definition speaks of them
due_is : (c : goal.After-count_rises) (k : ℕ) → k < 10
    → (line_at k (acted (act_of c.args.a.now) (devices_in (seen c)))).counts.due ≤ (line_at k (devices_in (seen c))).counts.due + 1
due_is c k less =
    subst (λ (d : DeviceParts). (line_at k d).counts.due ≤ (line_at k (devices_in (seen c))).counts.due + 1) (acted_is c)
    (c.act-word.ensures.acted.due k less)

lifts_are : (c : goal.After-count_rises) (n : ℕ) → lifts n (own_edges (seen c) c.args.a.now) + one_if (level_of line_numbers (levels (devices_in (seen c))) n)
    ≤ 1 + one_if (level_of line_numbers (levels (acted (act_of c.args.a.now) (devices_in (seen c)))) n)
lifts_are c n =
    subst (λ (d : DeviceParts). lifts n (own_edges (seen c) c.args.a.now) + one_if (level_of line_numbers (levels (devices_in (seen c))) n)
    ≤ 1 + one_if (level_of line_numbers (levels d) n)) (acted_is c)
    (subst (λ (es : List Edge). lifts n es + one_if (level_of line_numbers (levels (devices_in (seen c))) n)
    ≤ 1 + one_if (level_of line_numbers (levels c.act-word.new.self) n)) own (c.act-word.ensures.lifts n))
  where
    own : act_edges c.self.inside.time_ns c.act_of.result c.self.inside.devices ≡ own_edges (seen c) c.args.a.now
    own =
        ap (λ (x : Act). act_edges c.self.inside.time_ns x c.self.inside.devices) c.act_of.ensures
        ∙ ap (λ (t : ℕ). act_edges t (act_of c.args.a.now) c.self.inside.devices) c.self.invariant.time

-- it publishes nothing
quiet : (c : goal.After-count_rises) → writes c.args.a.now ≡ false
quiet c = touches-quiet c.args.a.now c.requires.touches

state_is : (c : goal.After-count_rises) (cpu h : ℕ) → with_parts (seen c) c.act-word.new.self (seen c).wall_number (seen c).wall_version
    (seen c).processors c.count_rises.new.rises (seen c).hv (apics_in (seen c)) ≡ before_look (seen c) cpu h c.args.a.now
state_is c cpu h =
    with_parts-is (seen c) cpu h c.args.a.now c.act-word.new.self (seen c).wall_number (seen c).wall_version (seen c).processors
    c.count_rises.new.rises (seen c).hv (apics_in (seen c)) (acted_is c) (sym (number-kept c.args.a.now (seen c).wall_number (quiet c)))
    (sym (version-kept c.args.a.now (seen c).wall_version (quiet c)))
    (sym (processors-kept (seen c).anchor (seen c).guest_khz cpu h c.args.a.now (seen c).processors (quiet c))) (rises_are c)
    (sym (hv-kept (seen c).anchor (seen c).guest_khz cpu h c.args.a.now (seen c).processors (seen c).hv (quiet c)))
    (sym (apics-kept cpu c.args.a.now (apics_in (seen c)) (quiet c)))

pub invariant_of-self : goal.invariant_of-self
invariant_of-self c = record {
  time = c.self.invariant.time;
  joined = subst IsJoined (sym (state_is c 0 0)) (IsJoined-acted (seen c) 0 0 c.args.a.now c.self.invariant.joined few (omega arith) wall processors hv
      apics (due_is c) (lifts_are c));
}
  where
    few : c.self.inside.accesses < MOST_ACCESSES
    few = subst (λ (b : BoardParts). b.accesses < MOST_ACCESSES) (sym c.self.view_is) c.requires.accesses

    wall : IsWall (wall_number_after c.args.a.now (seen c).wall_number) (wall_version_after c.args.a.now (seen c).wall_version) (seen c).wall_nsec
    wall =
        subst (λ (n : ℕ). IsWall n (wall_version_after c.args.a.now (seen c).wall_version) (seen c).wall_nsec)
        (sym (number-kept c.args.a.now (seen c).wall_number (quiet c)))
        (subst (λ (n : ℕ). IsWall (seen c).wall_number n (seen c).wall_nsec) (sym (version-kept c.args.a.now (seen c).wall_version (quiet c)))
        c.self.invariant.joined.wall)

    processors : AreProcessors (seen c).guest_khz (seen c).cpus (processors_after (seen c).anchor (seen c).guest_khz 0 0 c.args.a.now (seen c).processors)
    processors =
        subst (λ (ps : List ProcessorParts). AreProcessors (seen c).guest_khz (seen c).cpus ps)
        (sym (processors-kept (seen c).anchor (seen c).guest_khz 0 0 c.args.a.now (seen c).processors (quiet c))) c.self.invariant.joined.processors

    hv : IsHv (seen c).format (seen c).guest_khz (seen c).cpus (hv_after (seen c).anchor (seen c).guest_khz 0 0 c.args.a.now (seen c).processors (seen c).hv)
    hv =
        subst (λ (p : HvParts). IsHv (seen c).format (seen c).guest_khz (seen c).cpus p)
        (sym (hv-kept (seen c).anchor (seen c).guest_khz 0 0 c.args.a.now (seen c).processors (seen c).hv (quiet c))) c.self.invariant.joined.hv

    apics : AreApics (seen c).format (seen c).cpus (now_of (seen c) + (seen c).accesses) (apics_acted 0 c.args.a.now (apics_in (seen c)))
    apics =
        subst (λ (x : ApicsParts). AreApics (seen c).format (seen c).cpus (now_of (seen c) + (seen c).accesses) x)
        (sym (apics-kept 0 c.args.a.now (apics_in (seen c)) (quiet c))) c.self.invariant.joined.apics

pub returns-clause-room : goal.returns-clause-room
returns-clause-room c = λ k less. omega (arith, c.self.invariant.joined.apics.due k less)

pub returns-clause-state : goal.returns-clause-state
returns-clause-state c = λ cpu h. state_is c cpu h ∙ ap (λ (b : BoardParts). before_look b cpu h c.args.a.now) c.self.view_is

pub returns-clause-word : goal.returns-clause-word
returns-clause-word c =
    c.act-word.ensures.acted.value
    ∙ ap (λ (x : Act). value_of c.self.inside.time_ns x c.self.inside.devices) c.act_of.ensures
    ∙ ap (λ (t : ℕ). value_of t (act_of c.args.a.now) c.self.inside.devices) c.self.invariant.time
    ∙ ap (λ (b : BoardParts). value_of (now_of b) (act_of c.args.a.now) (devices_in b)) c.self.view_is

pub returns-clause-edges : goal.returns-clause-edges
returns-clause-edges c = edges_are c ∙ ap (λ (b : BoardParts). c.args.edges.now ++ own_edges b c.args.a.now) c.self.view_is
