-- What the job `race` prints for a trace, and what it leaves.
use Rattle.std.specs.Prelude.{◌≡◌, ℕ, Bool, List, ◌++◌, ◌⊎◌, codes}
use Rattle.board_io.specs.Ends.{Grows, Input, Held}
use Rattle.board_types.specs.declared.parts.BoardParts.{BoardParts}
use Rattle.trace_loop.specs.Text.{memory_fault_text}
use Rattle.trace_loop.specs.Progress.{Closing}
use Rattle.trace_loop.specs.Outcome.{Run, run_of}
use Rattle.race_phase.specs.Phases.{race_text}
use Rattle.trace_runner.specs.Check.{check_after, check}
use Rattle.trace_runner.specs.Checking.{Checking}
use Rattle.trace_replay.specs.Replay.{ended}
use Rattle.trace_replay.specs.Said.{Said, SaidAtMost}
use Rattle.trace_replay.specs.Status.{verdict_status, Fails}
use Rattle.trace_runner.specs.Trace.{TraceRead}
use Rattle.trace_runner.specs.Checked.{Checked}
use Rattle.trace_runner.specs.Checked.Checked.{Whole, Stopped}
use Rattle.trace_replay.specs.declared.status.Status.{Status}
use Rattle.trace_replay.specs.declared.status.Status.TheVariants.{Ok, NoMemory, ThreadFault}
use Rattle.trace_replay.specs.declared.status.Verdict.{Verdict}

-- the run of a check over an input
abbrev pub check_run : Bool → List ℕ → Input → Input → Run Checking Checked
check_run shows_state = run_of (check_after shows_state) (check shows_state)

-- a trace that was checked prints this: what its phases print, one after another, and its last
-- lines for the board that they leave
abbrev pub RacePrints : TraceRead → List ℕ → Type 0
RacePrints t text =
    (state : BoardParts) × (block : List ℕ)
    × race_text t.deliveries t.opening t.phases state block
    × (text ≡ block ++ (ended t.shows_state state).text)

-- what the threads of a race gave back doesn't fit together
unfoldable pub thread_fault_text : List ℕ
thread_fault_text = codes "fault thread\n"

-- what is left where the check came to its end: the line that was refused; or all that the trace
-- prints, where memory did not run out and no thread failed
abbrev pub CheckedLeaves : Checked → List ℕ → Status → Held → Held → Type 0 → Type 0
CheckedLeaves (Stopped verdict) text status old new shown =
    (status ≡ verdict_status verdict) × Grows old new text
CheckedLeaves (Whole trace) text status old new shown =
    ((out : List ℕ) × RacePrints trace out × Said Ok status old new out shown)
    ⊎ Said NoMemory status old new memory_fault_text shown
    ⊎ Said ThreadFault status old new thread_fault_text shown

-- the whole text was written, as `SaidAtMost` has it; or a thread failed, and `fault thread` is the text
abbrev pub SaidByThreads : Status → Status → Held → Held → List ℕ → Type 0 → Type 0
SaidByThreads status result old new text shown =
    SaidAtMost status result old new text shown
    ⊎ Said ThreadFault result old new thread_fault_text shown

-- what a race leaves
abbrev pub RaceLeaves : Run Checking Checked → Status → Held → Held → Type 0 → Type 0
RaceLeaves w status old new shown =
    ((w.end.faults ≡ w.start.faults) × CheckedLeaves w.whole.end w.whole.text status old new shown)
    ⊎ Fails w status old new

-- and where the check came to its end so, and the trace has one processor: what a replay that ends
-- so prints
abbrev pub AloneLeaves : Run Checking Checked → Closing Verdict → Status → Held
    → Held → Type 0 → Type 0
AloneLeaves w closing status old new shown =
    ((w.end.faults ≡ w.start.faults)
    × SaidByThreads (verdict_status closing.end) status old new closing.text shown)
    ⊎ Fails w status old new
