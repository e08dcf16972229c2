-- A race so far, and one phase more.
use Rattle.std.proofs.Common.{◌≡◌, ℕ, List, [], ◌∷◌, ◌++◌, refl, sym, ap, ◌∙◌, subst, append_assoc, append-nil, None}
use Rattle.board_types.specs.declared.parts.BoardParts.{BoardParts}
use Rattle.board_meters.specs.declared.meters.Meters.{Meters}
use Rattle.board_core.specs.Refusals.{meters_of}
use Rattle.trace_blocks.specs.declared.deliveries.Deliveries.{Deliveries}
use Rattle.trace_blocks.specs.declared.ends.End.{End}
use Rattle.race_phase.specs.declared.phases.Phase.{Phase}
use Rattle.race_phase.specs.declared.piece.Part.{Part}
use Rattle.trace_blocks.specs.declared.records.Record.{Record}
use Rattle.race_phase.specs.Parts.{phases_in, open_in}
use Rattle.race_phase.specs.Order.{after_records, records_refusal}
use Rattle.race_phase.specs.Phases.{after_phase, phase_refusal, race_text, trace_refusal}
use Rattle.trace_blocks.specs.Ends.{IsEnd, end_refusal, end_text, next_board, next_meters}
use Rattle.race_phase.specs.private.Feed.{PhaseHasEnded, PhaseRun}
use Rattle.race_phase.proofs.Ended.{phase_ended}
use Rattle.race_phase.proofs.Parts.{phases_in-append, open_in-append}
use Rattle.race_phase.proofs.Same.{meters_of-next}
use Rattle.race_phase.proofs.Taken.{or_none}

-- a race from one board has come to another after these phases, with this text: if no line of what comes next is refused in
-- file order from the first board on, then none is from the other on, and the text of the whole is this with that
abbrev pub IsGoing : Deliveries → BoardParts → BoardParts → List Phase → List ℕ → Type 0
IsGoing ds opening now ps text =
    (vs : List Phase) → trace_refusal (meters_of opening) (ps ++ vs) ≡ None
    → (trace_refusal (meters_of now) vs ≡ None)
    × ((st : BoardParts) (out : List ℕ) → race_text ds now vs st out → race_text ds opening (ps ++ vs) st (text ++ out))

pub going_start : (ds : Deliveries) (opening : BoardParts) → IsGoing ds opening opening [] []
going_start ds opening vs free = (free, λ st out x. x)

module _ (ds : Deliveries) (opening now next : BoardParts) (ts qs : List Part) (e : End) (old new : List ℕ)
    (left : open_in [] ts ≡ []) (ended : PhaseHasEnded now ds qs e next old new) where
  pub ended_left : open_in [] (ts ++ qs) ≡ []
  ended_left = open_in-append [] ts qs ∙ ap (λ (rs : List Record). open_in rs qs) left ∙ ended.phase.none_left

  one_more : phases_in [] (ts ++ qs) ≡ phases_in [] ts ++ ended.v ∷ []
  one_more =
      phases_in-append [] ts qs
      ∙ ap (λ (ws : List Phase). phases_in [] ts ++ ws) (ap (λ (rs : List Record). phases_in rs qs) left ∙ ended.phase.one)

  pub going_more : IsGoing ds opening now (phases_in [] ts) old → IsGoing ds opening next (phases_in [] (ts ++ qs)) new
  going_more before vs free =
      let v : Phase = ended.v in
      let ps : List Phase = phases_in [] ts in
      let split : phases_in [] (ts ++ qs) ++ vs ≡ ps ++ v ∷ vs =
      ap (λ (ws : List Phase). ws ++ vs) one_more ∙ append_assoc ps (v ∷ []) vs in
      let come = before (v ∷ vs) (sym (ap (trace_refusal (meters_of opening)) split) ∙ free) in
      let none = or_none (phase_refusal (meters_of now) v) (trace_refusal (after_phase (meters_of now) v) vs) come.0 in
      let ran = ended.ran none.0 in (
        ap (λ (m : Meters). trace_refusal m vs) ran.3 ∙ none.1,
        λ st out x.
            let text : old ++ (ran.0 ++ out) ≡ new ++ out = sym (append_assoc old ran.0 out) ∙ ap (λ l. l ++ out) (sym ran.1) in
            subst (λ (z : List Phase × List ℕ). race_text ds opening z.0 st z.1) (λ i. (sym split i, text i))
            (come.1 st (ran.0 ++ out) (next, ran.0, out, refl, ran.2, x)),
      )

-- a phase whose records were run is ended
module _ (s : BoardParts) (ds : Deliveries) (ps : List Part) (e : End) (mid : BoardParts) (lines : List ℕ) (run : PhaseRun s ds ps e mid lines)
    (cpus : mid.cpus ≡ s.cpus) where
  pub mid_takes : IsEnd mid.cpus e
  mid_takes = subst (λ (z : ℕ × End). IsEnd z.0 z.1) (λ i. (sym cpus i, run.phase.ends i)) run.phase.fits.end

  pub phase_has_ended : (next : BoardParts) (block old new : List ℕ) → next ≡ next_board e mid → block ≡ end_text ds e mid
      → new ≡ (old ++ lines) ++ block → PhaseHasEnded s ds ps e next old new
  phase_has_ended next block old new is says all =
      let v : Phase = run.v in
      let rs : List Record = v.records in
      let fits = run.phase.fits in
      let board : next ≡ next_board v.end mid = is ∙ ap (λ (d : End). next_board d mid) (sym run.phase.ends) in
      let text : new ≡ old ++ (lines ++ end_text ds v.end mid) =
      all ∙ append_assoc old lines block ∙ ap (λ l. old ++ (lines ++ l)) (says ∙ ap (λ (d : End). end_text ds d mid) (sym run.phase.ends)) in record {
        v = v;
        phase = run.phase;
        ran = λ free.
            let both = or_none (records_refusal (meters_of s) rs) (end_refusal (after_records (meters_of s) rs) v.end) free in
            let alike = run.alike both.0 in (
              lines ++ end_text ds v.end mid,
              text,
              phase_ended s ds v mid next lines (lines ++ end_text ds v.end mid) (run.told both.0) (subst (λ (n : ℕ). IsEnd n v.end) (sym cpus) fits.end)
                  (ap (λ (m : Meters). end_refusal m v.end) (sym alike) ∙ both.1) board refl,
              ap meters_of board ∙ meters_of-next v.end mid ∙ ap (next_meters v.end) (sym alike),
            );
      }

-- the end of a race
pub going_end : (ds : Deliveries) (opening now : BoardParts) (ps : List Phase) (text : List ℕ) → IsGoing ds opening now ps text
    → trace_refusal (meters_of opening) ps ≡ None → race_text ds opening ps now text
going_end ds opening now ps text going free =
    let come = going [] (ap (trace_refusal (meters_of opening)) (append-nil ps) ∙ free) in
    subst (λ (z : List Phase × List ℕ). race_text ds opening z.0 now z.1) (λ i. (append-nil ps i, append-nil text i))
    (come.1 now [] (refl, refl))
