-- Lemmas on the edges between two lists of levels.
use Rattle.std.proofs.Common.{◌≡◌, ℕ, ◌+◌, ◌<◌, ◌≤◌, Bool, true, false, not, List, [], ◌∷◌, ◌++◌, length, get_or, drop, refl, sym, ap, ◌∙◌, arith, append_assoc}
use Rattle.std.proofs.Common.{length-append}
use Rattle.std.proofs.lemmas.List.{drop_more}
use Rattle.std.specs.Bool.{beq}
use Rattle.std.proofs.lemmas.Bool.{false≢true}
use Rattle.irq_edges.specs.declared.edges.Edge.{Edge}
use Rattle.irq_edges.specs.Lines.{change, changes}

-- where nothing changes there is no edge
pub changes-same : (at : ℕ) (ns : List ℕ) (levels : List Bool) → changes at ns levels levels ≡ []
changes-same at [] levels = refl
changes-same at (n ∷ ns) [] = refl
changes-same at (n ∷ ns) (true ∷ levels) = changes-same at ns levels
changes-same at (n ∷ ns) (false ∷ levels) = changes-same at ns levels

-- at most one edge a line
pub length-changes-le : (at : ℕ) (ns : List ℕ) (before after : List Bool) → length (changes at ns before after) ≤ length ns
length-changes-le at [] before after = omega arith
length-changes-le at (n ∷ ns) [] after = omega arith
length-changes-le at (n ∷ ns) (b ∷ before) [] = omega arith
length-changes-le at (n ∷ ns) (true ∷ before) (true ∷ after) = omega (arith, length-changes-le at ns before after)
length-changes-le at (n ∷ ns) (true ∷ before) (false ∷ after) = omega (arith, length-changes-le at ns before after)
length-changes-le at (n ∷ ns) (false ∷ before) (true ∷ after) = omega (arith, length-changes-le at ns before after)
length-changes-le at (n ∷ ns) (false ∷ before) (false ∷ after) = omega (arith, length-changes-le at ns before after)

-- at a place, the edge of that line comes first
pub changes-drop : (at : ℕ) (ns : List ℕ) (before after : List Bool) (i : ℕ) (b a : Bool) → i < length ns → length before ≡ length ns → length after ≡ length ns
    → changes at (drop i ns) (drop i before) (drop i after) ≡ change at (get_or ns i 0) (get_or before i b) (get_or after i a) ++ changes at (drop (i + 1) ns)
    (drop (i + 1) before) (drop (i + 1) after)
changes-drop at ns before after i b a h p q =
    let hb : i < length before = omega arith in
    let ha : i < length after = omega arith in
    rw (drop_more ns i 0 h, drop_more before i b hb, drop_more after i a ha) refl

-- a line whose level differs has an edge
pub change-differs : (at line : ℕ) (b a : Bool) → not (beq b a) ≡ true → change at line b a ≡ record { at = at; line = line; up = a } ∷ []
change-differs at line true true h = absurd (false≢true h)
change-differs at line true false h = refl
change-differs at line false true h = refl
change-differs at line false false h = absurd (false≢true h)

-- a line whose level doesn't has none
pub change-same : (at line : ℕ) (b a : Bool) → not (beq b a) ≡ false → change at line b a ≡ []
change-same at line true true h = refl
change-same at line true false h = absurd (false≢true (sym h))
change-same at line false true h = absurd (false≢true (sym h))
change-same at line false false h = refl

-- where an edge is left there is a place for it
pub room_for : (done rest old all others : List Edge) (edge : Edge) (places : ℕ) → done ++ rest ≡ old ++ all → rest ≡ (edge ∷ []) ++ others
    → length old + length all ≤ places → length done < places
room_for done rest old all others edge places whole first room =
    omega (arith, ap length whole, length-append done rest, length-append old all, ap length first, length-append (edge ∷ []) others)

-- the first of the edges that are left joins those before
pub joined : (done rest whole es others : List Edge) → done ++ rest ≡ whole → rest ≡ es ++ others → (done ++ es) ++ others ≡ whole
joined done rest whole es others all first = append_assoc done es others ∙ ap (λ (xs : List Edge). done ++ xs) (sym first) ∙ all
