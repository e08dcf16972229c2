use Rattle.std.proofs.Common.{◌≡◌, ℕ, ◌<◌, length, get_or}
use Rattle.board_core.specs.Tsc.{no_processor}
use Rattle.board_core.proofs.parts.versions_of.Given as goal

abbrev pub invariant-loop-k : goal.invariant-loop-k
invariant-loop-k l =
    (length l.versions ≡ 64) × ((j : ℕ) → j < l.k → get_or l.versions j 0 ≡ (get_or l.processors j no_processor).version)
