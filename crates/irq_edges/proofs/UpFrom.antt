-- Lemmas on lines that are given by the time from which on they are up.
use Rattle.std.proofs.Common.{◌≡◌, ℕ, suc, ◌+◌, ◌<◌, ◌≤◌, Bool, true, false, cond, List, [], ◌∷◌, ◌++◌, length, Option, Some, None, refl, sym, ap, ◌∙◌, inl}
use Rattle.std.proofs.Common.{inr, arith}
use Rattle.std.specs.Prelude.{◌≢◌, Contains, ◌⊎◌}
use Rattle.std.proofs.lemmas.Bool.{cases_lt, leb-true, leb-false, le-leb, lt-leb, false≢true}
use Rattle.std.proofs.lemmas.List.Elements.{Contains-append_cases, Contains-append_right}
use Rattle.irq_edges.specs.declared.edges.Edge.{Edge}
use Rattle.irq_edges.specs.Lines.{change, changes}
use Rattle.irq_edges.specs.Rises.{is_up_at, levels_at}
use Rattle.irq_edges.specs.private.Rises.{down_at}

-- an element is the first or one of the others
pub Contains-cons_cases : {X : Type 0} (y x : X) (xs : List X) → Contains (y ∷ xs) x → (y ≡ x) ⊎ Contains xs x
Contains-cons_cases y x xs h = elim (Contains-append_cases (y ∷ []) xs x h) [
  | inl first ↦ inl (only first)
  | inr rest ↦ inr rest
]
  where
    only : {X : Type 0} {y x : X} → Contains (y ∷ []) x → y ≡ x
    only {X} {y} {x} (k, lt, is) = let e : k ≡ 0 = omega arith in rw e at is

-- what is up stays up
pub is_up_at-mono : (a t : ℕ) (u : Option ℕ) → a ≤ t → is_up_at a u ≡ true → is_up_at t u ≡ true
is_up_at-mono a t None h up = up
is_up_at-mono a t (Some r) h up = le-leb r t (omega (arith, leb-true r a up))

-- a level that is equal at two times is equal between them
pub is_up_at-between : (a t b : ℕ) (u : Option ℕ) → a ≤ t → t ≤ b → is_up_at a u ≡ is_up_at b u → is_up_at t u ≡ is_up_at a u
is_up_at-between a t b None h k e = refl
is_up_at-between a t b (Some r) h k e = elim (cases_lt a r) [
  | inr up ↦ le-leb r t (omega arith) ∙ sym (le-leb r a up)
  | inl down ↦ lt-leb r t (omega (arith, leb-false r b (sym e ∙ lt-leb r a down))) ∙ sym (lt-leb r a down)
]

-- levels that are equal at two times are equal between them
pub between : (a t b : ℕ) (us : List (Option ℕ)) → a ≤ t → t ≤ b → levels_at a us ≡ levels_at b us → levels_at t us ≡ levels_at a us
between a t b [] h k e = refl
between a t b (u ∷ us) h k e =
    let first : is_up_at a u ≡ is_up_at b u = cc in
    let others : levels_at a us ≡ levels_at b us = cc in
    let this : is_up_at t u ≡ is_up_at a u = is_up_at-between a t b u h k first in
    let rest : levels_at t us ≡ levels_at a us = between a t b us h k others in
    cc

-- a line that rises at no time after a and up to t has the level that it had
pub is_up_at-still : (a t : ℕ) (u : Option ℕ) → a ≤ t → ((r : ℕ) → u ≡ Some r → a < r → t < r) → is_up_at t u ≡ is_up_at a u
is_up_at-still a t None h none = refl
is_up_at-still a t (Some r) h none = elim (cases_lt a r) [
  | inr up ↦ le-leb r t (omega arith) ∙ sym (le-leb r a up)
  | inl down ↦ lt-leb r t (none r refl down) ∙ sym (lt-leb r a down)
]

-- where no line rises after a and up to t, the levels stay
pub levels_at-still : (a t : ℕ) (us : List (Option ℕ)) → a ≤ t → ((r : ℕ) → Contains us (Some r) → a < r → t < r) → levels_at t us ≡ levels_at a us
levels_at-still a t [] h none = refl
levels_at-still a t (u ∷ us) h none =
    let this : is_up_at t u ≡ is_up_at a u = is_up_at-still a t u h (λ r e. none r (0, omega arith, e)) in
    let rest : levels_at t us ≡ levels_at a us = levels_at-still a t us h (λ r c. none r (Contains-append_right (u ∷ []) us (Some r) c)) in
    cc

-- no more lines are down later than before
pub down_at-mono : (a b : ℕ) (us : List (Option ℕ)) → a ≤ b → down_at b us ≤ down_at a us
down_at-mono a b [] h = omega arith
down_at-mono a b (u ∷ us) h = more (is_up_at a u) (is_up_at b u) (down_at a us) (down_at b us) (is_up_at-mono a b u h) (down_at-mono a b us h)
  where
    more : (p q : Bool) (x y : ℕ) → (p ≡ true → q ≡ true) → y ≤ x → cond q y (suc y) ≤ cond p x (suc x)
    more true true x y up k = k
    more true false x y up k = absurd (false≢true (up refl))
    more false true x y up k = omega arith
    more false false x y up k = omega arith

-- no more lines are down than there are
pub down_at-le : (t : ℕ) (us : List (Option ℕ)) → down_at t us ≤ length us
down_at-le t [] = omega arith
down_at-le t (u ∷ us) = more (is_up_at t u) (down_at t us) (length us) (down_at-le t us)
  where
    more : (p : Bool) (x n : ℕ) → x ≤ n → cond p x (suc x) ≤ suc n
    more true x n h = omega arith
    more false x n h = omega arith

-- the edges between two times and the lines that are down later are at most the lines that were down
pub length-changes : (at a b : ℕ) (ns : List ℕ) (us : List (Option ℕ)) → a ≤ b
    → length (changes at ns (levels_at a us) (levels_at b us)) + down_at b us ≤ down_at a us
length-changes at a b [] us h = omega (arith, down_at-mono a b us h)
length-changes at a b (n ∷ ns) [] h = omega arith
length-changes at a b (n ∷ ns) (u ∷ us) h = more at n (is_up_at a u) (is_up_at b u) (changes at ns (levels_at a us) (levels_at b us)) (down_at a us)
    (down_at b us) (is_up_at-mono a b u h) (length-changes at a b ns us h)
  where
    more : (at n : ℕ) (p q : Bool) (es : List Edge) (x y : ℕ) → (p ≡ true → q ≡ true) → length es + y ≤ x
        → length (change at n p q ++ es) + cond q y (suc y) ≤ cond p x (suc x)
    more at n true true es x y up k = k
    more at n true false es x y up k = absurd (false≢true (up refl))
    more at n false true es x y up k = omega arith
    more at n false false es x y up k = omega arith

-- a line that rises in between gives an edge
pub changes-some : (at a b r : ℕ) (ns : List ℕ) (us : List (Option ℕ)) → length us ≤ length ns → Contains us (Some r) → a < r → r ≤ b
    → changes at ns (levels_at a us) (levels_at b us) ≢ []
changes-some at a b r ns [] h c lt le = absurd (omega (arith, c.1))
changes-some at a b r [] (u ∷ us) h c lt le = absurd (omega arith)
changes-some at a b r (n ∷ ns) (u ∷ us) h c lt le = elim (Contains-cons_cases u (Some r) us c) [
  | inl this ↦ here at n (is_up_at a u) (is_up_at b u) (changes at ns (levels_at a us) (levels_at b us)) (ap (is_up_at a) this ∙ lt-leb r a lt)
      (ap (is_up_at b) this ∙ le-leb r b le)
  | inr other ↦ behind at n (is_up_at a u) (is_up_at b u) (changes at ns (levels_at a us) (levels_at b us))
      (changes-some at a b r ns us (omega arith) other lt le)
]
  where
    here : (at n : ℕ) (p q : Bool) (es : List Edge) → p ≡ false → q ≡ true → change at n p q ++ es ≢ []
    here at n true q es e f = absurd (false≢true (sym e))
    here at n false false es e f = absurd (false≢true f)
    here at n false true es e f = λ none. cc

    behind : (at n : ℕ) (p q : Bool) (es : List Edge) → es ≢ [] → change at n p q ++ es ≢ []
    behind at n true true es some = some
    behind at n true false es some = λ none. cc
    behind at n false true es some = λ none. cc
    behind at n false false es some = some
