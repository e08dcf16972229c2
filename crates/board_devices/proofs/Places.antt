-- Lemmas on what is done at each place.
use Rattle.std.proofs.Common.{◌≡◌, ℕ, zero, suc, ◌+◌, ◌<◌, ◌≤◌, ◌⊎◌, Bool, List, [], ◌∷◌, length, get_or, set, map, refl, ap, sym, subst, ◌∙◌, inl, inr, arith}
use Rattle.std.proofs.lemmas.Bool.{cases_eq}
use Rattle.std.proofs.lemmas.List.{get_or-set_same, get_or-set_other}
use Rattle.tick_policy.specs.declared.parts.TickParts.{TickParts}
use Rattle.board_devices.specs.Places.{each}
use Rattle.board_devices.specs.private.Stretch.{eight}

-- one after the other
pub each-each : (f g : ℕ → TickParts → TickParts) (k : ℕ) (ls : List TickParts) → each f k (each g k ls) ≡ each (λ i l. f i (g i l)) k ls
each-each f g k [] = refl
each-each f g k (l ∷ ls) = ap (λ (xs : List TickParts). f k (g k l) ∷ xs) (each-each f g (suc k) ls)

-- the same at each place
pub each-same : (f g : ℕ → TickParts → TickParts) → ((i : ℕ) (l : TickParts) → f i l ≡ g i l) → (k : ℕ) (ls : List TickParts) → each f k ls ≡ each g k ls
each-same f g e k [] = refl
each-same f g e k (l ∷ ls) = ap (λ (x : TickParts). x ∷ each f (suc k) ls) (e k l) ∙ ap (λ (xs : List TickParts). g k l ∷ xs) (each-same f g e (suc k) ls)

pub each-none : (f : ℕ → TickParts → TickParts) → ((i : ℕ) (l : TickParts) → f i l ≡ l) → (k : ℕ) (ls : List TickParts) → each f k ls ≡ ls
each-none f e k [] = refl
each-none f e k (l ∷ ls) = ap (λ (x : TickParts). x ∷ each f (suc k) ls) (e k l) ∙ ap (λ (xs : List TickParts). l ∷ xs) (each-none f e (suc k) ls)

-- one place
pub each-at : (f : ℕ → TickParts → TickParts) (k i : ℕ) (ls : List TickParts) (d : TickParts) → i < length ls → get_or (each f k ls) i d
    ≡ f (k + i) (get_or ls i d)
each-at f k i [] d h = absurd (omega arith)
each-at f k zero (l ∷ ls) d h = ap (λ (j : ℕ). f j l) (omega arith)
each-at f k (suc i) (l ∷ ls) d h = each-at f (suc k) i ls d (omega arith) ∙ ap (λ (j : ℕ). f j (get_or ls i d)) (omega arith)

pub length-each : (f : ℕ → TickParts → TickParts) (k : ℕ) (ls : List TickParts) → length (each f k ls) ≡ length ls
length-each f k [] = refl
length-each f k (l ∷ ls) = ap suc (length-each f (suc k) ls)

-- what holds of the places so far, and of one more, holds of both
pub more : {X : Type 0} (P : ℕ → X → Type 0) (xs : List X) (d : X) (i : ℕ) (x : X) → i < length xs → ((j : ℕ) → j < i → P j (get_or xs j d)) → P i x → (j : ℕ)
    → j < i + 1 → P j (get_or (set xs i x) j d)
more P xs d i x inside before here j less = elim (cases_eq j i) [
  | inl same ↦ subst (λ y. P j y) (sym (ap (λ (k : ℕ). get_or (set xs i x) k d) same ∙ get_or-set_same xs i x d inside))
      (subst (λ (k : ℕ). P k x) (sym same) here)
  | inr other ↦ subst (λ y. P j y) (sym (get_or-set_other xs i j x d other)) (before j (below j i less other))
]
  where
    below : (j i : ℕ) → j < i + 1 → (j ≡ i → ⊥) → j < i
    below j i h apart = omega arith

-- lists that are the same at each place
pub same_places : {X : Type 0} (xs ys : List X) (d : X) → length xs ≡ length ys → ((j : ℕ) → j < length xs → get_or xs j d ≡ get_or ys j d) → xs ≡ ys
same_places [] [] d e h = refl
same_places [] (y ∷ ys) d e h = absurd (omega (arith, e))
same_places (x ∷ xs) [] d e h = absurd (omega (arith, e))
same_places (x ∷ xs) (y ∷ ys) d e h =
    let first : x ≡ y = h 0 (omega arith) in
    ap (λ z. z ∷ xs) first ∙ ap (λ zs. y ∷ zs) (same_places xs ys d (omega (arith, e)) (λ j less. h (suc j) (omega arith)))

-- the levels of six lines
pub same_six : {a b c e f g : Bool} {p q r u v w : Bool} → a ≡ p → b ≡ q → c ≡ r → e ≡ u → f ≡ v → g ≡ w
    → a ∷ b ∷ c ∷ e ∷ f ∷ g ∷ [] ≡ p ∷ q ∷ r ∷ u ∷ v ∷ w ∷ []
same_six h i k l m o = rw (h, i, k, l, m, o) refl

-- what the timers that aren't there leave alone is the same of all eight
pub all_eight : {X : Type 0} (f : ℕ → X) (timers : ℕ) → (timers ≡ 3) ⊎ (timers ≡ 8) → ((k : ℕ) → timers ≤ k → k < 8 → f (suc k) ≡ f k) → f timers ≡ f 8
all_eight f timers (inr eight) past = ap f eight
all_eight f timers (inl three) past =
    let next : (k : ℕ) → 3 ≤ k → k < 8 → f (suc k) ≡ f k = λ k le less. past k (omega (arith, three)) less in
    ap f three
    ∙ sym (next 7 (omega arith) (omega arith) ∙ next 6 (omega arith) (omega arith) ∙ next 5 (omega arith) (omega arith)
    ∙ next 4 (omega arith) (omega arith) ∙ next 3 (omega arith) (omega arith))

-- a list that is made for the places of the timers
pub at-eight : {X : Type 0} (f : ℕ → X) (d : X) (k : ℕ) → k < 8 → get_or (map f eight) k d ≡ f k
at-eight f d zero h = refl
at-eight f d (suc zero) h = refl
at-eight f d (suc (suc zero)) h = refl
at-eight f d (suc (suc (suc zero))) h = refl
at-eight f d (suc (suc (suc (suc zero)))) h = refl
at-eight f d (suc (suc (suc (suc (suc zero))))) h = refl
at-eight f d (suc (suc (suc (suc (suc (suc zero)))))) h = refl
at-eight f d (suc (suc (suc (suc (suc (suc (suc zero))))))) h = refl
at-eight f d (suc (suc (suc (suc (suc (suc (suc (suc k)))))))) h = absurd (omega arith)
