use Rattle.std.proofs.Common.{◌≡◌, [], List, ℕ, ap, sym, ◌∙◌, subst, Option, None}
use Rattle.std.specs.Prelude.{IfSome}
use Rattle.board_types.specs.declared.parts.BoardParts.{BoardParts}
use Rattle.race_phase.specs.declared.opening.Opening.{Opening}
use Rattle.race_phase.specs.declared.piece.Part.{Part}
use Rattle.race_phase.specs.Parts.{phases_in, open_in}
use Rattle.board_core.specs.Refusals.{meters_of}
use Rattle.race_phase.specs.Phases.{race_text, trace_refusal}
use Rattle.race_phase.specs.private.Feed.{PhaseHasEnded, board_or}
use Rattle.race_phase.proofs.Going.{IsGoing, going_end, going_more, going_start, ended_left}
use Rattle.race_phase.proofs.race.run_race.Given as given
use Rattle.race_phase.proofs.race.run_race.Goals as goal
use Rattle.race_phase.proofs.race.run_race.Goals.{In_ok-join_parts}

pub loop-phase-init : goal.loop-phase-init
loop-phase-init g c =
    let o = c.in-Some.opening in record {
      shown = sym c.opening.ensures ∙ c.in-Some.is;
      left = ap (open_in []) c.new-taken.ensures.items;
      going = subst (λ (z : List Part × List ℕ). IsGoing o.deliveries o.state o.state (phases_in [] z.0) z.1)
          (λ i. (sym c.new-taken.ensures.items i, sym c.new-text.ensures i)) (going_start o.deliveries o.state);
    }

-- the board with which the phase opened
abbrev before : (g : given.Over) → In_ok-join_parts g → BoardParts
before g c = board_or c.in-Some.opening.state c.loop-phase.left

ended : (g : given.Over) (c : In_ok-join_parts g)
    → PhaseHasEnded (before g c) c.in-Some.opening.deliveries c.in_ok-ended.ended.taken.items c.in_ok-ended.ended.end c.in_ok-ended.ended.board.value
    c.loop-phase.text c.run_and_end.new.text
ended g c =
    let w = c.in_ok-ended.ended in
    subst (λ (b : BoardParts). PhaseHasEnded b c.in-Some.opening.deliveries w.taken.items w.end w.board.value c.loop-phase.text c.run_and_end.new.text)
    c.opens_with-state.ensures c.in_ok-ended.ensures

-- the race has come to the board that the phase left
going : (g : given.Over) (c : In_ok-join_parts g)
    → IsGoing c.in-Some.opening.deliveries c.in-Some.opening.state c.in_ok-ended.ended.board.value (phases_in [] c.join_parts.new.taken.items) c.run_and_end.new.text
going g c =
    let o = c.in-Some.opening in
    let w = c.in_ok-ended.ended in
    let inv = c.loop-phase.invariant in
    subst (λ (ts : List Part). IsGoing o.deliveries o.state w.board.value (phases_in [] ts) c.run_and_end.new.text) (sym c.in_ok-join_parts.ensures)
    (going_more o.deliveries o.state (before g c) w.board.value c.loop-phase.taken.items w.taken.items w.end c.loop-phase.text c.run_and_end.new.text
    inv.left (ended g c) inv.going)

pub loop-phase-preserved : goal.loop-phase-preserved
loop-phase-preserved g c =
    let o = c.in-Some.opening in
    let w = c.in_ok-ended.ended in
    let inv = c.loop-phase.invariant in
    let at = (goal.at.loop-phase-preserved g c).In_ok-join_parts in record {
      shown = inv.shown;
      left = subst (λ (ts : List Part). open_in [] ts ≡ []) (sym c.in_ok-join_parts.ensures)
          (ended_left o.deliveries o.state (before g at) w.board.value c.loop-phase.taken.items w.taken.items w.end c.loop-phase.text
          c.run_and_end.new.text inv.left (ended g at));
      going = going g at;
    }

pub returns-then-eq : goal.returns-then-eq
returns-then-eq g c =
    let o = c.in-Some.opening in
    let board = c.in_ok-ended.ended.board.value in
    let all = c.join_parts.new.taken.items in
    subst (λ (m : Option Opening). IfSome m (λ z. trace_refusal (meters_of z.state) (phases_in [] all) ≡ None
    → race_text z.deliveries z.state (phases_in [] all) board c.run_and_end.new.text)) (sym c.loop-phase.invariant.shown)
    (going_end o.deliveries o.state board (phases_in [] all) c.run_and_end.new.text (going g (goal.at.returns-then-eq g c).In_ok-join_parts))
