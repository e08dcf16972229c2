-- Edges of the six lines.
use Rattle.std.proofs.Common.{ℕ, Bool, true, false, IsTrue, List, [], ◌∷◌, refl}
use Rattle.std.specs.List.{All}
use Rattle.std.proofs.lemmas.List.Elements.{All-nil, All-cons, All-append, All-head, All-tail, All-from_recursion}
use Rattle.irq_edges.specs.Lines.{change, changes, is_line, line_numbers, IsOfLine}

-- the edge of a line
All-change : (at n : ℕ) (b a : Bool) → IsTrue (is_line n) → All IsOfLine (change at n b a)
All-change at n true true line = All-nil IsOfLine
All-change at n true false line = All-cons IsOfLine _ [] line (All-nil IsOfLine)
All-change at n false true line = All-cons IsOfLine _ [] line (All-nil IsOfLine)
All-change at n false false line = All-nil IsOfLine

-- the edges between two lists of levels are of the lines given
All-changes : (at : ℕ) (ns : List ℕ) (before after : List Bool) → All (λ n. IsTrue (is_line n)) ns → All IsOfLine (changes at ns before after)
All-changes at [] before after lines = All-nil IsOfLine
All-changes at (n ∷ ns) [] after lines = All-nil IsOfLine
All-changes at (n ∷ ns) (b ∷ before) [] lines = All-nil IsOfLine
All-changes at (n ∷ ns) (b ∷ before) (a ∷ after) lines =
    All-append IsOfLine (change at n b a) (changes at ns before after)
    (All-change at n b a (All-head (λ n. IsTrue (is_line n)) n ns lines))
    (All-changes at ns before after (All-tail (λ n. IsTrue (is_line n)) n ns lines))

-- the six lines are lines
All-line_numbers : All (λ n. IsTrue (is_line n)) line_numbers
All-line_numbers = All-from_recursion (λ n. IsTrue (is_line n)) line_numbers (refl, (refl, (refl, (refl, (refl, (refl, tt))))))

-- each edge between two lists of levels of the six lines is of one of them
pub IsOfLine-changes : (at : ℕ) (before after : List Bool) → All IsOfLine (changes at line_numbers before after)
IsOfLine-changes at before after = All-changes at line_numbers before after All-line_numbers
