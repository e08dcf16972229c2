use Rattle.std.proofs.Common.{ℕ, ◌<◌, ◌+◌, ltb, get_or}
use Rattle.board_devices.specs.Places.{no_line}
use Rattle.board_devices.specs.Parts.{IsTimerLine}
use Rattle.board_devices.proofs.parts.are_timer_lines.Given as goal

abbrev pub invariant-loop-k : goal.invariant-loop-k
invariant-loop-k l = (j : ℕ) → j < l.k → IsTimerLine (ltb j l.timers) (get_or l.ticks 2 no_line).policy (get_or l.ticks (j + 2) no_line)
