-- What a run of the program leaves of its source and its sink, by the logs of their calls.
use Rattle.std.specs.Prelude.{◌≡◌, Bool, List, ℕ, [], None, ◌⊎◌}
use Rattle.board_io.specs.Ends.{Input, Output, Gave, input_of, output_of}
use Rattle.board_io.specs.Faults.{Rose}
use Rattle.trace_loop.specs.Text.{memory_fault_text}
use Rattle.trace_replay.specs.Replay.{replay, replay_run}
use Rattle.trace_replay.specs.Said.{Said}
use Rattle.trace_replay.specs.Status.{Shown}
use Rattle.trace_replay.specs.declared.status.Status.{Status}
use Rattle.trace_replay.specs.declared.status.Status.TheVariants.{NoMemory}
use Rattle.trace_runner.specs.Check.{check}
use Rattle.trace_runner.specs.Checked.Checked.{Whole}
use Rattle.trace_runner.specs.Race.{RaceLeaves, AloneLeaves, check_run}
use Rattle.trace_runner.specs.Trace.{TraceRead}

-- standard input and standard output before their first call
abbrev pub unread : Input
unread = input_of None []

abbrev pub unwritten : Output
unwritten = output_of None []

-- there was no memory to begin with: nothing was read, and only that was written
abbrev pub NeverBegan : Status → Input → Input → Output → Output → Type 0
NeverBegan status start end old new =
    Said NoMemory status old.contents new.contents memory_fault_text (Rose old.faults new.faults) × (end ≡ start)

-- whatever the input was, by what the source gave: its replay has this status, and the sink accepted
-- what the replay prints
abbrev pub Replayed : Bool → Status → Input → Input → Output → Output → Type 0
Replayed shows_state status start end old new =
    (input : List ℕ) → Gave start end input
    → Shown (replay_run shows_state input start end) status old.contents new.contents
    ⊎ NeverBegan status start end old new

-- the same of a race
abbrev pub Raced : Bool → Status → Input → Input → Output → Output → Type 0
Raced shows_state status start end old new =
    (input : List ℕ) → Gave start end input
    → RaceLeaves (check_run shows_state input start end) status old.contents new.contents (Rose old.faults new.faults)
    ⊎ NeverBegan status start end old new

-- .. of a trace of one processor, of which no line is refused: it leaves what its replay leaves
abbrev pub RacedAlone : Bool → Status → Input → Input → Output → Output → Type 0
RacedAlone shows_state status start end old new =
    (input : List ℕ) → Gave start end input
    → (trace : TraceRead) → (check shows_state input).end ≡ Whole trace → trace.opening.cpus ≡ 1
    → AloneLeaves (check_run shows_state input start end) (replay shows_state input) status
    old.contents new.contents (Rose old.faults new.faults)
    ⊎ NeverBegan status start end old new
