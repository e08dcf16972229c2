-- The statuses: their numbers, and what a replay that ended with one has written.
use Rattle.std.specs.Prelude.{◌≡◌, ℕ, ◌⊎◌}
use Rattle.board_io.specs.Ends.{Grows, Held}
use Rattle.trace_loop.specs.declared.ended.Ended.{Ended}
use Rattle.trace_loop.specs.declared.ended.Ended.TheVariants.{
  By,
  SourceFault as FailsSource,
  SinkFault as FailsSink,
  NoMemory as WantsMemory,
}
use Rattle.trace_loop.specs.Outcome.{Run, Outcome}
use Rattle.reply_text.specs.declared.ends.Refused.TheVariants.{
  Invalid,
  Range,
  Versions as LastVersion,
  Spent as AllSpent,
}
use Rattle.trace_replay.specs.declared.replay.Replay.{Replay}
use Rattle.trace_replay.specs.declared.status.Verdict.{Verdict}
use Rattle.trace_replay.specs.declared.status.Verdict.TheVariants.{Done, Stopped}
use Rattle.trace_replay.specs.declared.status.Status.{Status}
use Rattle.trace_replay.specs.declared.status.Status.TheVariants.{
  Ok,
  Usage,
  BadRecord,
  SourceFault,
  SinkFault,
  NoMemory,
  OutOfRange,
  Spent,
  VersionsSpent,
  ThreadFault,
}

-- the program's exit status
abbrev pub number_of : Status → ℕ
number_of Ok = 0
number_of Usage = 2
number_of (BadRecord line reason) = 3
number_of SourceFault = 4
number_of SinkFault = 5
number_of NoMemory = 6
number_of (OutOfRange line ns) = 7
number_of (Spent line number) = 8
number_of (VersionsSpent line version) = 9
number_of ThreadFault = 10

-- how a trace ended, as a status
abbrev pub verdict_status : Verdict → Status
verdict_status Done = Ok
verdict_status (Stopped line (Invalid reason)) = BadRecord line reason
verdict_status (Stopped line (Range ns)) = OutOfRange line ns
verdict_status (Stopped line (LastVersion version)) = VersionsSpent line version
verdict_status (Stopped line (AllSpent number)) = Spent line number

-- how a run over a trace ended, as the program's status
abbrev pub status_of : Ended Verdict → Status
status_of (By verdict) = verdict_status verdict
status_of FailsSource = SourceFault
status_of FailsSink = SinkFault
status_of WantsMemory = NoMemory

-- what a run left that came to no end: a fault of the source or the sink, or want of memory
abbrev pub Fails : {A E : Type 0} → Run A E → Status → Held → Held → Type 0
Fails w SourceFault old new = Outcome w FailsSource old new
Fails w SinkFault old new = Outcome w FailsSink old new
Fails w NoMemory old new = Outcome w WantsMemory old new
Fails w status old new = ⊥

-- what a replay left, by its status: that is the trace's end, and all that it prints was appended to the
-- sink; or it came to no end
abbrev pub Shown : Run Replay Verdict → Status → Held → Held → Type 0
Shown w status old new =
    ((w.end.faults ≡ w.start.faults) × (status ≡ verdict_status w.whole.end)
    × Grows old new w.whole.text)
    ⊎ Fails w status old new
