-- Phases without a fault: each record fits the board that the trace begins with, and none is
-- refused in file order.
use Rattle.std.specs.Prelude.{◌≡◌, List, [], ◌∷◌, All, None}
use Rattle.board_meters.specs.declared.meters.Meters.{Meters}
use Rattle.board_core.specs.Refusals.{meters_of}
use Rattle.board_types.specs.declared.parts.BoardParts.{BoardParts}
use Rattle.race_phase.specs.Phases.{IsPhase, after_phase, trace_refusal}
use Rattle.race_phase.specs.declared.phases.Phase.{Phase}

-- the meters after phases, one after another
abbrev pub after_phases : Meters → List Phase → Meters
after_phases m [] = m
after_phases m (v ∷ vs) = after_phases (after_phase m v) vs

-- phases that fit the board, and have no fault
pub record IsFree (opening : BoardParts) (phases : List Phase) : Type 0 where
  pub fit : All (IsPhase opening.cpus opening.format) phases
  pub free : trace_refusal (meters_of opening) phases ≡ None
