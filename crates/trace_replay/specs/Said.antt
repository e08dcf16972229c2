-- What a text that is put whole leaves.
use Rattle.std.specs.Prelude.{◌≡◌, ◌≢◌, ℕ, List, ◌⊎◌}
use Rattle.board_io.specs.Ends.{Output, Held}
use Rattle.board_io.specs.Faults.{Rose}
use Rattle.trace_loop.specs.Text.{memory_fault_text}
use Rattle.trace_loop.specs.Outcome.{KeepsSink, SaidOr}
use Rattle.trace_replay.specs.declared.status.Status.{Status}
use Rattle.trace_replay.specs.declared.status.Status.TheVariants.{NoMemory, SinkFault, SourceFault}

-- the whole text was written, and this is the status; or the sink failed, which showed, and took
-- a prefix of it
abbrev pub Said : Status → Status → Held → Held → List ℕ → Type 0 → Type 0
Said status result old new text shown = SaidOr SinkFault status result old new text shown

-- the same, or memory ran out, and `fault memory` is the text
abbrev pub SaidAtMost : Status → Status → Held → Held → List ℕ → Type 0 → Type 0
SaidAtMost status result old new text shown =
    Said status result old new text shown
    ⊎ Said NoMemory result old new memory_fault_text shown

-- what a call leaves of its sink that calls no source: its status is no fault of a source, and one of
-- the sink only where the sink counted it
pub record PutsOnly (result : Status) (before after : Output) : Type 0 where
  pub source : result ≢ SourceFault
  pub failed : result ≡ SinkFault → Rose before.faults after.faults
  pub sink : KeepsSink SinkFault result before after
