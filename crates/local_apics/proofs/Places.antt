-- What is done at each place.
use Rattle.std.proofs.Common.{◌≡◌, ℕ, zero, suc, ◌+◌, ◌<◌, List, [], ◌∷◌, length, get_or, refl, ap, sym, ◌∙◌, arith}
use Rattle.local_apics.specs.Places.{each}

pub each-each : {X : Type 0} (f g : ℕ → X → X) (k : ℕ) (xs : List X) → each f k (each g k xs) ≡ each (λ i x. f i (g i x)) k xs
each-each f g k [] = refl
each-each f g k (x ∷ xs) = ap (λ ys. f k (g k x) ∷ ys) (each-each f g (suc k) xs)

pub each-same : {X : Type 0} (f g : ℕ → X → X) → ((i : ℕ) (x : X) → f i x ≡ g i x) → (k : ℕ) (xs : List X) → each f k xs ≡ each g k xs
each-same f g e k [] = refl
each-same f g e k (x ∷ xs) = ap (λ y. y ∷ each f (suc k) xs) (e k x) ∙ ap (λ ys. g k x ∷ ys) (each-same f g e (suc k) xs)

pub each-none : {X : Type 0} (f : ℕ → X → X) → ((i : ℕ) (x : X) → f i x ≡ x) → (k : ℕ) (xs : List X) → each f k xs ≡ xs
each-none f e k [] = refl
each-none f e k (x ∷ xs) = ap (λ y. y ∷ each f (suc k) xs) (e k x) ∙ ap (λ ys. x ∷ ys) (each-none f e (suc k) xs)

-- one place, also one after the end, where nothing is done to the default
pub each-at : {X : Type 0} (f : ℕ → X → X) (d : X) → ((i : ℕ) → f i d ≡ d) → (k i : ℕ) (xs : List X) → get_or (each f k xs) i d ≡ f (k + i) (get_or xs i d)
each-at f d e k i [] = sym (e (k + i))
each-at f d e k zero (x ∷ xs) = ap (λ (j : ℕ). f j x) (omega arith)
each-at f d e k (suc i) (x ∷ xs) = each-at f d e (suc k) i xs ∙ ap (λ (j : ℕ). f j (get_or xs i d)) (omega arith)

pub length-each : {X : Type 0} (f : ℕ → X → X) (k : ℕ) (xs : List X) → length (each f k xs) ≡ length xs
length-each f k [] = refl
length-each f k (x ∷ xs) = ap suc (length-each f (suc k) xs)

-- lists that are the same at each place
pub same_places : {X : Type 0} (xs ys : List X) (d : X) → length xs ≡ length ys → ((j : ℕ) → j < length xs → get_or xs j d ≡ get_or ys j d) → xs ≡ ys
same_places [] [] d e h = refl
same_places [] (y ∷ ys) d e h = absurd (omega (arith, e))
same_places (x ∷ xs) [] d e h = absurd (omega (arith, e))
same_places (x ∷ xs) (y ∷ ys) d e h =
    let first : x ≡ y = h 0 (omega arith) in
    ap (λ z. z ∷ xs) first ∙ ap (λ zs. y ∷ zs) (same_places xs ys d (omega (arith, e)) (λ j less. h (suc j) (omega arith)))

-- one place that is there
pub each-in : {X : Type 0} (f : ℕ → X → X) (d : X) (k i : ℕ) (xs : List X) → i < length xs → get_or (each f k xs) i d ≡ f (k + i) (get_or xs i d)
each-in f d k i [] h = absurd (omega arith)
each-in f d k zero (x ∷ xs) h = ap (λ (j : ℕ). f j x) (omega arith)
each-in f d k (suc i) (x ∷ xs) h = each-in f d (suc k) i xs (omega arith) ∙ ap (λ (j : ℕ). f j (get_or xs i d)) (omega arith)

-- where nothing is done to any place the list stays
pub each-still : {X : Type 0} (f : ℕ → X → X) (d : X) (xs : List X) → ((i : ℕ) → i < length xs → f i (get_or xs i d) ≡ get_or xs i d) → each f 0 xs ≡ xs
each-still f d xs e = same_places (each f 0 xs) xs d (length-each f 0 xs) (λ j less.
    let inside : j < length xs = omega (arith, less, length-each f 0 xs) in
    each-in f d 0 j xs inside ∙ ap (λ (i : ℕ). f i (get_or xs j d)) (omega arith) ∙ e j inside)
