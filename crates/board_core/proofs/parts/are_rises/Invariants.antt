use Rattle.std.proofs.Common.{ℕ, ◌<◌, get_or, false}
use Rattle.board_core.specs.private.Places.{IsCount}
use Rattle.board_core.proofs.parts.are_rises.Given as goal

abbrev pub invariant-loop-k : goal.invariant-loop-k
invariant-loop-k l = (j : ℕ) → j < l.k → IsCount l.format l.accesses (get_or l.lines.levels j false) (get_or l.rises j 0)
