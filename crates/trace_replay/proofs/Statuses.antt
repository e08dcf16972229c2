-- What the status of a run over a trace says.
use Rattle.std.proofs.Common.{List, ℕ, ap, subst, inl, inr}
use Rattle.board_io.specs.Ends.{Grows, Held}
use Rattle.trace_loop.specs.declared.ended.Ended.{Ended}
use Rattle.trace_loop.specs.declared.ended.Ended.TheVariants.{
  By,
  SourceFault as FailsSource,
  SinkFault as FailsSink,
  NoMemory as WantsMemory,
}
use Rattle.trace_loop.specs.Outcome.{Run, Outcome}
use Rattle.trace_replay.specs.declared.replay.Replay.{Replay}
use Rattle.trace_replay.specs.declared.status.Verdict.{Verdict}
use Rattle.trace_replay.specs.Status.{verdict_status, status_of, Shown}

-- what a run left is what its status says
pub shown_is : (w : Run Replay Verdict) (e : Ended Verdict) (old new : Held) → Outcome w e old new → Shown w (status_of e) old new
shown_is w (By verdict) old new o = inl (o.1.1.1, ap verdict_status o.0, subst (λ (text : List ℕ). Grows old new text) o.1.1.0 o.1.2)
shown_is w FailsSource old new o = inr o
shown_is w FailsSink old new o = inr o
shown_is w WantsMemory old new o = inr o
