use Rattle.std.proofs.Common.{◌≡◌, ap, ◌∙◌, sym, subst, refl, length, get_or, ℕ, ◌<◌, arith}
use Rattle.board_types.specs.declared.parts.BoardParts.{BoardParts}
use Rattle.board_core.specs.Refusals.{meters_of}
use Rattle.shared_board.specs.Stops.{StopTold}
use Rattle.race_phase.specs.private.Feed.{AreFresh}
use Rattle.race_phase.proofs.Alike.{phase_alike}
use Rattle.race_phase.proofs.Taken.{IsSound, sound_of, phase_told}
use Rattle.race_phase.proofs.Workers.{newcomer, newcomers_length}
use Rattle.race_phase.proofs.phase.run_phase.Goals as goal

pub teams_of-requires : goal.teams_of-requires
teams_of-requires g c = record {
  fresh = λ i d l.
      let st = g.N.Name.state in
      let made = c.in_ok-board.ensures in
      let len = ap length made ∙ newcomers_length st g.N.Name.passes in
      let small : i < g.N.Name.passes = omega arith in
      let t = newcomer st g.N.Name.passes i d (get_or c.in_ok-board.passes.items i d) small (ap (λ z. get_or z i d) made) in
      (let n = t.0 in let p = c.requires.passes in omega arith, t.1, t.2);
}

pub map_vec-requires-after_bounds : goal.map_vec-requires-after_bounds
map_vec-requires-after_bounds g c κs within i x l is = (
  subst (λ t. AreFresh g.N.Name.state t.passes.items) (sym is) (c.in_ok-teams.ensures.fresh i x l),
  c.cpus-cpus.ensures.value ∙ ap (λ (b : BoardParts). b.cpus) c.requires.state,
  c.format-format.ensures ∙ ap (λ (b : BoardParts). b.format) c.requires.state,
)

pub unreachable-requires : goal.unreachable-requires
unreachable-requires g c =
    let few = c.in-Err.ensures.few.0 refl in
    let len = c.in_ok-passes.ensures.len in
    let cpus = c.cpus-cpus.ensures.value in
    let state = ap (λ (b : BoardParts). b.cpus) c.requires.state in
    let p = c.requires.passes in absurd (omega arith)

pub returns : goal.returns
returns g c =
    let st = g.N.Name.state in
    let ds = c.args.deliveries.now in
    let mid = c.in-Ok-stop.stopped.state.value in
    let text = c.in_ok-passes.field-0.text in
    let p = c.requires.passes in
    let b = c.in_ok-passes.ensures.len in
    let cpus = c.cpus-cpus.ensures.value in
    let state = ap (λ (b : BoardParts). b.cpus) c.requires.state in
    let len : length c.in_ok-passes.field-0.passes.items ≡ st.cpus = omega arith in
    let stop : StopTold st st.cpus mid c.in_ok-passes.field-0.passes.items =
    subst (λ (k : ℕ). StopTold st k mid c.in_ok-passes.field-0.passes.items) p c.in-Ok-stop.ensures.ok in
    let sound : IsSound (meters_of st) = subst (λ (b : BoardParts). IsSound (meters_of b)) c.requires.state
    (sound_of c.args.state.now c.cpus-cpus.ensures.joined c.processors-processors.ensures.places) in
    let many = c.in-Ok.ensures.len in
    let all = c.in_ok-passes.ensures.all ds (λ i d l.
    let there : i < length c.in_ok-teams.teams.items = omega arith in
    (c.in-Ok.ensures.each i d there).1.call.met) in
    let rs = all.v.records in
    let fits = all.phase.fits in record {
      v = all.v;
      phase = all.phase;
      told = λ free. phase_told st mid ds rs c.in_ok-passes.field-0.passes.items text sound len fits.records free fits.few stop all.worked;
      alike = λ free.
          phase_alike st ds rs mid text fits.records
          (phase_told st mid ds rs c.in_ok-passes.field-0.passes.items text sound len fits.records free fits.few stop all.worked);
    }
