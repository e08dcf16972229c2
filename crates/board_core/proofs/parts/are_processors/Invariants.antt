use Rattle.std.proofs.Common.{ℕ, ◌<◌, get_or}
use Rattle.board_core.specs.Tsc.{no_processor}
use Rattle.board_core.specs.private.Places.{IsPlace}
use Rattle.board_core.proofs.parts.are_processors.Given as goal

abbrev pub invariant-loop-k : goal.invariant-loop-k
invariant-loop-k l = (j : ℕ) → j < l.k → IsPlace l.guest_khz l.cpus j (get_or l.ps j no_processor)
