-- A new anchor: the board's part of a move to another host.
use Rattle.std.specs.Prelude.{ℕ, ◌+◌}
use Rattle.board_types.specs.declared.parts.BoardParts.{BoardParts}
use Rattle.board_core.specs.Time.{now_of}
use Rattle.board_core.specs.Nanosecond.{ran_for}

-- the board runs gap nanoseconds, by the old anchor; then count `start` of a counter of this rate
-- has the new time. TSC offsets, pages and the number of accesses stay, and no look at the deadlines
-- follows (own)
unfoldable pub reanchored : ℕ → ℕ → ℕ → BoardParts → BoardParts
reanchored khz start gap b = record (ran_for gap b) {
  anchor = record { khz = khz; start = start; base_ns = now_of b + gap };
  host = start;
}
