use Rattle.std.proofs.Common.{◌≡◌, ℕ, ◌<◌, length, true}
use Rattle.local_apics.specs.Parts.{IsPlaceOf}
use Rattle.local_apics.specs.Places.{timer_at, line_at}
use Rattle.local_apics.proofs.apics.LocalApics.parts.Given as goal

abbrev pub invariant-loop-cpu : goal.invariant-loop-cpu
invariant-loop-cpu l = record {
  long : length l.parts.timers ≡ 64;
  lines_long : length l.parts.lines ≡ 64;
  timers : (k : ℕ) → k < l.cpu → timer_at k l.parts ≡ timer_at k l.self;
  lines : (k : ℕ) → k < l.cpu → line_at k l.parts ≡ line_at k l.self;
  place : (k : ℕ) → k < l.cpu → IsPlaceOf true (timer_at k l.parts) (line_at k l.parts);
}
