-- Lemmas on the lines that are up.
use Rattle.std.proofs.Common.{◌≡◌, ℕ, ◌+◌, ◌<◌, Bool, true, false, cond, List, [], ◌∷◌, ◌++◌, length, drop, get_or, refl, sym, decimal, append_assoc, ◌||◌}
use Rattle.std.specs.List.{items_where_true}
use Rattle.std.proofs.lemmas.List.{drop_more}
use Rattle.reply_text.specs.Text.{up_word}

-- whether there is one
abbrev pub is_some_up : List ℕ → Bool
is_some_up [] = false
is_some_up (n ∷ ns) = true

-- their numbers, with nothing for none
abbrev pub joined : List ℕ → List ℕ
joined [] = []
joined (n ∷ ns) = up_word (n ∷ ns)

-- a line in front
abbrev pub with_line : Bool → ℕ → List ℕ → List ℕ
with_line true n ns = n ∷ ns
with_line false n ns = ns

-- one line more
pub items_where_true-cons : (up : Bool) (n : ℕ) (ns : List ℕ) (levels : List Bool)
    → items_where_true (up ∷ levels) (n ∷ ns) ≡ with_line up n (items_where_true levels ns)
items_where_true-cons true n ns levels = refl
items_where_true-cons false n ns levels = refl

-- one line more, by its place
pub items_where_true-drop : (ns : List ℕ) (levels : List Bool) (k : ℕ) → k < length ns → k < length levels
    → items_where_true (drop k levels) (drop k ns)
    ≡ with_line (get_or levels k false) (get_or ns k 0) (items_where_true (drop (k + 1) levels) (drop (k + 1) ns))
items_where_true-drop ns levels k a b =
    rw (drop_more ns k 0 a, drop_more levels k false b) (items_where_true-cons (get_or levels k false) (get_or ns k 0) (drop (k + 1) ns) (drop (k + 1) levels))

-- its number in front of the others
pub joined-with_line : (up : Bool) (n : ℕ) (ns rest : List ℕ)
    → cond up (decimal n ++ cond (is_some_up ns) (44 ∷ (joined ns ++ rest)) (joined ns ++ rest)) (joined ns ++ rest) ≡ joined (with_line up n ns) ++ rest
joined-with_line false n ns rest = refl
joined-with_line true n [] rest = refl
joined-with_line true n (m ∷ ms) rest = sym (append_assoc (decimal n) (44 ∷ joined (m ∷ ms)) rest)

-- and then there is one
pub is_some_up-with_line : (up : Bool) (n : ℕ) (ns : List ℕ) → (up || is_some_up ns) ≡ is_some_up (with_line up n ns)
is_some_up-with_line true n ns = refl
is_some_up-with_line false n ns = refl

-- the step of a loop from the last line to the first
pub put_step : (ns : List ℕ) (levels : List Bool) (k place : ℕ) (found : Bool) (rest old new : List ℕ)
    → k + 1 ≡ place → k < length ns → k < length levels
    → old ≡ joined (items_where_true (drop place levels) (drop place ns)) ++ rest
    → found ≡ is_some_up (items_where_true (drop place levels) (drop place ns))
    → new ≡ cond (get_or levels k false) (decimal (get_or ns k 0) ++ cond found (44 ∷ old) old) old
    → (new ≡ joined (items_where_true (drop k levels) (drop k ns)) ++ rest)
    × ((get_or levels k false || found) ≡ is_some_up (items_where_true (drop k levels) (drop k ns)))
put_step ns levels k place found rest old new next a b is_old is_found is_new =
    let step = items_where_true-drop ns levels k a b in (
      rw (is_new, is_old, is_found, ← next, step)
          (joined-with_line (get_or levels k false) (get_or ns k 0) (items_where_true (drop (k + 1) levels) (drop (k + 1) ns)) rest),
      rw (is_found, ← next, step)
          (is_some_up-with_line (get_or levels k false) (get_or ns k 0) (items_where_true (drop (k + 1) levels) (drop (k + 1) ns))),
    )
