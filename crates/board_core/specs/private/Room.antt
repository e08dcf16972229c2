-- Room for the ticks of a look at the deadlines.
use Rattle.std.specs.Prelude.{ℕ, ◌+◌, ◌<◌}
use Rattle.local_apics.specs.Places.{line_at}
use Rattle.board_types.specs.declared.parts.BoardParts.{BoardParts}
use Rattle.board_core.specs.Time.{now_of}
use Rattle.board_core.specs.Apics.{apics_in}

-- one more tick may be due on each line
abbrev pub HasRoom : BoardParts → Type 0
HasRoom b = (k : ℕ) → k < 64 → (line_at k (apics_in b)).counts.due < now_of b + b.accesses
