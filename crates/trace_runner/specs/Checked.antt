-- What a check of a trace ends with.
use Rattle.trace_runner.specs.Trace.{TraceRead}
use Rattle.trace_replay.specs.declared.status.Verdict.{Verdict}

-- the trace, read to its end; or a line that is refused
pub data Checked : Type 0 where
  Whole : TraceRead → Checked
  Stopped : Verdict → Checked
