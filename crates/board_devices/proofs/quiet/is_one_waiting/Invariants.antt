use Rattle.std.proofs.Common.{◌≡◌, ℕ, ◌<◌, false, get_or}
use Rattle.tick_policy.specs.Line.{is_waiting}
use Rattle.board_devices.specs.Places.{no_line}
use Rattle.board_devices.proofs.quiet.is_one_waiting.Given as goal

abbrev pub invariant-loop-k : goal.invariant-loop-k
invariant-loop-k l = (j : ℕ) → j < l.k → is_waiting (get_or l.lines j no_line) ≡ false
