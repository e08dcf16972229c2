-- Faults in file order, one phase more.
use Rattle.std.proofs.Common.{◌≡◌, List, [], ◌∷◌, ◌++◌, None, refl}
use Rattle.board_meters.specs.declared.meters.Meters.{Meters}
use Rattle.race_phase.proofs.Checked.{or_both}
use Rattle.race_phase.proofs.Taken.{or_none}
use Rattle.race_phase.specs.declared.phases.Phase.{Phase}
use Rattle.race_phase.specs.Phases.{phase_refusal, after_phase, trace_refusal}
use Rattle.trace_runner.specs.Free.{after_phases}

pub after_phases-snoc : (m : Meters) (vs : List Phase) (v : Phase) → after_phases m (vs ++ v ∷ []) ≡ after_phase (after_phases m vs) v
after_phases-snoc m [] v = refl
after_phases-snoc m (x ∷ xs) v = after_phases-snoc (after_phase m x) xs v

pub trace_refusal-snoc : (m : Meters) (vs : List Phase) (v : Phase) → trace_refusal m vs ≡ None → phase_refusal (after_phases m vs) v ≡ None
    → trace_refusal m (vs ++ v ∷ []) ≡ None
trace_refusal-snoc m [] v free last = or_both (phase_refusal m v) None last refl
trace_refusal-snoc m (x ∷ xs) v free last =
    let p : (phase_refusal m x ≡ None) × (trace_refusal (after_phase m x) xs ≡ None) = or_none (phase_refusal m x) (trace_refusal (after_phase m x) xs) free in
    or_both (phase_refusal m x) (trace_refusal (after_phase m x) (xs ++ v ∷ [])) p.0 (trace_refusal-snoc (after_phase m x) xs v p.1 last)
