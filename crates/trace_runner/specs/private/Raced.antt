-- What a race leaves of its source and its sink.
use Rattle.std.specs.Prelude.{◌≡◌, ℕ, ◌-◌, Bool, List, take, None}
use Rattle.board_io.specs.Ends.{Input, Output, Gave}
use Rattle.board_io.specs.Faults.{Rose}
use Rattle.trace_loop.specs.Text.{memory_fault_text}
use Rattle.trace_runner.specs.Check.{check_after, check}
use Rattle.trace_runner.specs.Checked.Checked.{Whole}
use Rattle.trace_runner.specs.Race.{RaceLeaves, AloneLeaves, check_run}
use Rattle.trace_replay.specs.Replay.{replay}
use Rattle.trace_replay.specs.Said.{Said}
use Rattle.trace_runner.specs.Trace.{TraceRead}
use Rattle.trace_replay.specs.declared.status.Status.{Status}
use Rattle.trace_replay.specs.declared.status.Status.TheVariants.{NoMemory}

-- this is so of each input that a source can have had, by what it gave
abbrev pub OfInput : Input → Input → (List ℕ → Type 0) → Type 0
OfInput start end Holds = (input : List ℕ) → Gave start end input → Holds input

-- this is so where the input is a trace of one processor, of which no line is refused
abbrev pub WhereAlone : Bool → List ℕ → Type 0 → Type 0
WhereAlone shows_state input Holds =
    (trace : TraceRead) → (check shows_state input).end ≡ Whole trace → trace.opening.cpus ≡ 1 → Holds

-- a race of the input left this
abbrev pub Raced : Bool → Status → Input → Input → Output → Output → List ℕ → Type 0
Raced shows_state status start end old new input =
    RaceLeaves (check_run shows_state input start end) status old.contents new.contents (Rose old.faults new.faults)

-- .. and this, where the input is a trace of one processor
abbrev pub RacedAlone : Bool → Status → Input → Input → Output → Output → List ℕ → Type 0
RacedAlone shows_state status start end old new input =
    AloneLeaves (check_run shows_state input start end) (replay shows_state input) status old.contents new.contents
    (Rose old.faults new.faults)

-- the check had come to no end before the source was called last
abbrev pub HadGoneOn : Bool → Input → Input → List ℕ → Type 0
HadGoneOn shows_state start end input =
    (check_after shows_state (take (end.before - start.given) input)).end ≡ None

-- there was no memory for the places of a race, and its source was not called
abbrev pub HadNoPlaces : {S : Type 0} → Status → S → S → Output → Output → Type 0
HadNoPlaces status before after old new =
    Said NoMemory status old.contents new.contents memory_fault_text (Rose old.faults new.faults) × (after ≡ before)
