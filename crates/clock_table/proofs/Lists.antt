-- Prefixes of one list, and lists of views.
use Rattle.std.proofs.Common.{◌≡◌, ◌≢◌, ◌⊎◌, ℕ, zero, suc, ◌≤◌, List, [], ◌∷◌, ◌++◌, length, get_or, set, refl, ap, sym, ◌∙◌, subst, ⊎_elim, inl, inr}
use Rattle.std.proofs.Common.{arith, append_assoc, append-nil, length-append, Option, Some, None}
use mathlib.Core.{List.IsPrefix, Option.some, Option.some-injective, Option.some-ne-none}
use lib.ListN.{get_elem?}
use Rattle.atomic_table.proofs.Lists.{at_set}
use Rattle.clock_table.specs.Steps.{no_fields}

module _ {A : Type 0} where
  pub prefix_self : (xs : List A) → IsPrefix xs xs
  prefix_self xs = ([], append-nil xs)

  pub prefix_trans : (xs ys zs : List A) → IsPrefix xs ys → IsPrefix ys zs → IsPrefix xs zs
  prefix_trans xs ys zs p q = (p.0 ++ q.0, sym (append_assoc xs p.0 q.0) ∙ (ap (λ w. w ++ q.0) p.1 ∙ q.1))

  -- of two prefixes of one list the shorter is a prefix of the longer
  pub prefix_shorter : (xs ys zs : List A) → IsPrefix xs zs → IsPrefix ys zs → length xs ≤ length ys → IsPrefix xs ys
  prefix_shorter [] ys zs p q le = (ys, refl)
  prefix_shorter (x ∷ xs) [] zs p q le = absurd (omega arith)
  prefix_shorter (x ∷ xs) (y ∷ ys) [] p q le = absurd (cc (p.1))
  prefix_shorter (x ∷ xs) (y ∷ ys) (z ∷ zs) p q le =
      let heads : x ≡ y = cc (p.1, q.1) in
      let rest = prefix_shorter xs ys zs (p.0, cc (p.1)) (q.0, cc (q.1)) (omega arith) in
      (rest.0, cc (heads, rest.1))

  pub prefix_length : (xs ys : List A) → IsPrefix xs ys → length xs ≤ length ys
  prefix_length xs ys p = omega (arith, sym (ap length p.1) ∙ length-append xs p.0)

  -- the last of a longer list, with its place
  at_end : (l : List A) (a b : A) (j : ℕ) → get_elem? (l ++ a ∷ []) j ≡ some b → (get_elem? l j ≡ some b) ⊎ ((j ≡ length l) × (a ≡ b))
  at_end [] a b zero e = inr (refl, some-injective a b e)
  at_end [] a b (suc j) e = absurd (some-ne-none b (sym e))
  at_end (x ∷ xs) a b zero e = inl e
  at_end (x ∷ xs) a b (suc j) e = ⊎_elim (λ t. inl t) (λ (t : (j ≡ length xs) × (a ≡ b)). inr (ap suc t.0, t.1)) (at_end xs a b j e)

  -- what holds of one view, and of all others, holds of all
  pub each_set : (l : List A) (i : ℕ) (w : A) (F : ℕ → A → Type 0) → F i w → ((j : ℕ) (u : A) → j ≢ i → get_elem? l j ≡ some u → F j u) → (j : ℕ) (u : A)
      → get_elem? (set l i w) j ≡ some u → F j u
  each_set l i w F mine others j u e = ⊎_elim
      (λ (t : (j ≡ i) × (w ≡ u)). subst (λ (x : ℕ × A). F x.0 x.1) (λ k. (sym t.0 k, t.1 k)) mine)
      (λ (t : (j ≢ i) × (get_elem? l j ≡ some u)). others j u t.0 t.1) (at_set l i j w u e)

  -- the same with a view more at the end
  pub each_more : (l : List A) (i : ℕ) (w new : A) (F : ℕ → A → Type 0) → F i w → ((j : ℕ) (u : A) → j ≢ i → get_elem? l j ≡ some u → F j u)
      → F (length (set l i w)) new → (j : ℕ) (u : A) → get_elem? (set l i w ++ new ∷ []) j ≡ some u → F j u
  each_more l i w new F mine others last j u e = ⊎_elim (λ old. each_set l i w F mine others j u old)
      (λ (t : (j ≡ length (set l i w)) × (new ≡ u)). subst (λ (x : ℕ × A). F x.0 x.1) (λ k. (sym t.0 k, t.1 k)) last) (at_end (set l i w) new u j e)

-- no field is there yet
pub no_field : (k : ℕ) → get_or no_fields k None ≡ None
no_field zero = refl
no_field (suc zero) = refl
no_field (suc (suc zero)) = refl
no_field (suc (suc (suc zero))) = refl
no_field (suc (suc (suc (suc k)))) = refl

-- what is found at j after a write at k is what was written, or what was there
pub set_or : (xs : List (Option ℕ)) (k j n u : ℕ) (F : Type 0) → get_or (set xs k (Some n)) j None ≡ Some u → (j ≡ k → n ≡ u → F)
    → (get_or xs j None ≡ Some u → F) → F
set_or (x ∷ xs) zero zero n u F e hit miss = hit refl (cc e)
set_or (x ∷ xs) (suc k) (suc j) n u F e hit miss = set_or xs k j n u F e (λ a b. hit (ap suc a) b) miss
set_or xs k j n u F e hit miss = miss e
