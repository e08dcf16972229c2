-- When a replay may answer a line.
use Rattle.std.specs.Prelude.{◌≡◌, ℕ, ◌<◌, ◌^◌, Option, None}
use Rattle.trace_replay.specs.Ready.{IsReady}
use Rattle.trace_replay.specs.declared.replay.Replay.{Replay}
use Rattle.trace_replay.specs.declared.status.Verdict.{Verdict}

-- the line of this number comes next, and no line has ended the trace
pub record MayAnswer (line : ℕ) (r : Replay) (end : Option Verdict) : Type 0 where
  pub room : line < 2 ^ 63
  pub ready : IsReady line r
  pub goes_on : end ≡ None
