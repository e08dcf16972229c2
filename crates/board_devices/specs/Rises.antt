-- Rises of lines in a list of edges.
use Rattle.std.specs.Prelude.{ℕ, ◌+◌, Bool, ◌&&◌, ◌==◌, if◌then◌else◌, List, [], ◌∷◌}
use Rattle.irq_edges.specs.declared.edges.Edge.{Edge}

-- 1 where it holds, and else 0
abbrev pub one_if : Bool → ℕ
one_if b = if b then 1 else 0

-- how many edges of the list lift this line
abbrev pub lifts : ℕ → List Edge → ℕ
lifts line [] = 0
lifts line (e ∷ es) = one_if (e.up && (e.line == line)) + lifts line es

-- counts of rises with those of a list of edges
abbrev pub rises_with : List Edge → List ℕ → List ℕ → List ℕ
rises_with es (n ∷ ns) (r ∷ rises) = (r + lifts n es) ∷ rises_with es ns rises
rises_with es _ rises = rises
