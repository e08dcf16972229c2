-- The six lines, and the edges between two lists of their levels.
use Rattle.std.specs.Prelude.{ℕ, Bool, true, false, ◌-◌, ◌==◌, ◌||◌, IsTrue, if◌then◌else◌}
use Rattle.std.specs.Prelude.{List, [], ◌∷◌, ◌++◌}
use Rattle.irq_edges.specs.declared.edges.Edge.{Edge}

-- the lines 0 and 8 of a PC, and four inputs of the I/O APIC (own), in order of their numbers
abbrev pub line_numbers : List ℕ
line_numbers = 0 ∷ 8 ∷ 20 ∷ 21 ∷ 22 ∷ 23 ∷ []

-- the edge of a line between a level and the next, where they differ
abbrev pub change : ℕ → ℕ → Bool → Bool → List Edge
change at line true false = record { at = at; line = line; up = false } ∷ []
change at line false true = record { at = at; line = line; up = true } ∷ []
change at line _ _ = []

-- the edges of lines with these levels before and after, in their order, each with the time `at`
abbrev pub changes : ℕ → List ℕ → List Bool → List Bool → List Edge
changes at (n ∷ ns) (b ∷ before) (a ∷ after) = change at n b a ++ changes at ns before after
changes at _ _ _ = []

-- whether a number is that of a line
abbrev pub is_line : ℕ → Bool
is_line n = n == 0 || n == 8 || n == 20 || n == 21 || n == 22 || n == 23

-- the place of a line among the six, by its number
abbrev pub place_of_line : ℕ → ℕ
place_of_line line = if line == 0 then 0 else if line == 8 then 1 else line - 18

-- an edge is of one of the six lines
abbrev pub IsOfLine : Edge → Type 0
IsOfLine e = IsTrue (is_line e.line)

-- the level of the line of that number, among lines of these numbers and levels; else down (own)
abbrev pub level_of : List ℕ → List Bool → ℕ → Bool
level_of [] levels line = false
level_of (n ∷ ns) [] line = false
level_of (n ∷ ns) (l ∷ levels) line = if n == line then l else level_of ns levels line
