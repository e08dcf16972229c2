-- How often each line went up: counted from format 2 on.
use Rattle.std.specs.Prelude.{ℕ, ◌==◌, nat_le, if◌then◌else◌, List, ◌∷◌}
use Rattle.irq_edges.specs.declared.edges.Edge.{Edge}
use Rattle.irq_edges.specs.Lines.{line_numbers}
use Rattle.board_devices.specs.Rises.{rises_with}

-- the counts after these edges, in order of line numbers: each edge upwards counts one
abbrev pub rises_after : ℕ → List Edge → List ℕ → List ℕ
rises_after format es rises = if nat_le 2 format then rises_with es line_numbers rises else rises

-- the count of the line of that number, among lines with these numbers and counts
abbrev pub count_at : List ℕ → List ℕ → ℕ → ℕ
count_at (n ∷ ns) (r ∷ rises) line = if n == line then r else count_at ns rises line
count_at _ _ line = 0
