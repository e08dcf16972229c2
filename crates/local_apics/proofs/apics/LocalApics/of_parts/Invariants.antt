use Rattle.std.proofs.Common.{◌≡◌, ℕ, ◌<◌, length, nat_lt}
use Rattle.local_apics.specs.Parts.{IsPlaceOf}
use Rattle.local_apics.specs.Places.{timer_at, line_at}
use Rattle.local_apics.proofs.apics.LocalApics.of_parts.Given as goal

abbrev pub invariant-loop-cpu : goal.invariant-loop-cpu
invariant-loop-cpu l = record {
  long : length l.apics.timers ≡ 64;
  lines_long : length l.apics.lines ≡ 64;
  timers : (k : ℕ) → k < l.cpu → timer_at k l.apics ≡ timer_at k l.parts;
  lines : (k : ℕ) → k < l.cpu → line_at k l.apics ≡ line_at k l.parts;
  place : (k : ℕ) → k < l.cpu → IsPlaceOf (nat_lt k l.cpus) (timer_at k l.parts) (line_at k l.parts);
}
