use Rattle.std.proofs.Common.{ℕ, ◌<◌, ◌≤◌, get_or}
use Rattle.board_devices.specs.Places.{no_line}
use Rattle.board_core.proofs.parts.are_due.Given as goal

abbrev pub invariant-loop-k : goal.invariant-loop-k
invariant-loop-k l = (j : ℕ) → j < l.k → (get_or l.ticks j no_line).counts.due ≤ l.most
