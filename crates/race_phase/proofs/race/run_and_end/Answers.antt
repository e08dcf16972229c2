use Rattle.std.proofs.Common.{◌≡◌, ◌++◌, List, ℕ, ap, sym, ◌∙◌, subst, refl}
use Rattle.board_types.specs.declared.parts.BoardParts.{BoardParts}
use Rattle.trace_blocks.specs.Ends.{end_text, next_board}
use Rattle.race_phase.specs.private.Feed.{PhaseRun}
use Rattle.race_phase.proofs.Going.{mid_takes, phase_has_ended}
use Rattle.race_phase.proofs.race.run_and_end.Given as given
use Rattle.race_phase.proofs.race.run_and_end.Goals as goal
use Rattle.race_phase.proofs.race.run_and_end.Goals.{After-deref_mut}

-- the phase was run, and has left the board of as many processors
ran : (g : given.Over) (c : After-deref_mut g)
    → PhaseRun c.args.state.now c.args.deliveries.now c.in_ok-board.field-0.taken.items c.in_ok-board.field-0.end c.deref_mut.result.now
    c.in_ok-board.field-0.text
ran g c =
    let w = c.in_ok-board.field-0 in
    let at : c.deref_mut.result.now ≡ w.board.value = cc c.deref_mut.ensures.value in
    subst (λ (z : BoardParts × BoardParts). PhaseRun z.0 c.args.deliveries.now w.taken.items w.end z.1 w.text)
    (λ i. (c.in_ok-blank.ensures.state i, sym at i)) c.in_ok-board.ensures

size : (g : given.Over) (c : After-deref_mut g) → c.deref_mut.result.now.cpus ≡ c.args.state.now.cpus
size g c = cc (c.deref.ensures, c.cpus.ensures.value, c.if-cpus.false, c.cpus-2.ensures.value)

pub end_phase-requires : goal.end_phase-requires
end_phase-requires g c =
    let w = c.in_ok-board.field-0 in
    let at = (goal.at.end_phase-requires g c).After-deref_mut in
    record { end = mid_takes c.args.state.now c.args.deliveries.now w.taken.items w.end c.deref_mut.result.now w.text (ran g at) (size g at) }

pub returns : goal.returns
returns g c =
    let s = c.args.state.now in
    let ds = c.args.deliveries.now in
    let w = c.in_ok-board.field-0 in
    let mid = c.deref_mut.result.now in
    let at = (goal.at.returns g c).After-deref_mut in
    let last : List ℕ = end_text ds w.end mid in
    let next = c.end_phase.new.board in
    let board : next ≡ next_board w.end mid = rw c.in-None.is at c.in_ok-end_phase.ensures.board in
    let says = rw c.in-None.is at c.in_ok-end_phase.ensures.text in
    let block : c.end_phase.new.out.items ≡ last = says ∙ ap (λ (l : List ℕ). l ++ last) c.new-block.ensures.items in
    let text : c.append.new.self ≡ (c.args.text.now ++ w.text) ++ last = c.in_ok-append.ensures.ok ∙ (λ i. c.in_ok-join.ensures i ++ block i) in
    phase_has_ended s ds w.taken.items w.end mid w.text (ran g at) (size g at) next last c.args.text.now c.append.new.self board refl text
