-- A phase whose records were run, and a phase that was run after a text.
use Rattle.std.specs.Prelude.{◌≡◌, ℕ, ◌≤◌, List, [], ◌++◌}
use Rattle.trace_blocks.specs.declared.deliveries.Deliveries.{Deliveries}
use Rattle.trace_blocks.specs.declared.records.Record.{Record}
use Rattle.board_types.specs.declared.parts.BoardParts.{BoardParts}
use Rattle.board_history.specs.History.{board_after, entries_of, IsLegal, Opens}
use Rattle.board_history.specs.declared.entry.Entry.{Entry}
use Rattle.race_phase.specs.declared.phases.Phase.{Phase}
use Rattle.race_phase.specs.Calls.{Shown}
use Rattle.race_phase.specs.Phases.{after_phase, PhaseEnded}
use Rattle.board_core.specs.Refusals.{meters_of}

-- there is one legal history, which opens with the opening state and leaves this one. It has the
-- entries of the records and no others, those of a processor in their order, and this is their text
pub record PhaseTold (opening : BoardParts) (ds : Deliveries) (rs : List Record)
    (state : BoardParts) (out : List ℕ) : Type 0 where
  pub h : List Entry
  pub legal : IsLegal h
  pub opens : Opens opening h
  pub leaves : state ≡ board_after h
  pub none_else : (n : ℕ) → opening.cpus ≤ n → entries_of n h ≡ []
  pub shown : Shown opening ds rs h 0 opening.cpus out

-- one phase more after a text, with a board whose meters are those of file order
abbrev pub PhaseRan : Deliveries → BoardParts → Phase → BoardParts → List ℕ → List ℕ
    → Type 0
PhaseRan ds s v next old new =
    (first : List ℕ) × (new ≡ old ++ first) × PhaseEnded s ds v next first
    × (meters_of next ≡ after_phase (meters_of s) v)
