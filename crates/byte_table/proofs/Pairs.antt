-- Two lists of one length, side by side.
use Rattle.std.proofs.Common.{◌≡◌, ℕ, zero, suc, ◌<◌, ◌≤◌, List, [], ◌∷◌, ◌++◌, length, map, get_or, replicate, ◌+◌, ◌-◌, ◌*◌, inl, inr, refl}
use Rattle.std.proofs.Common.{ap, sym, ◌∙◌, arith}
use Rattle.std.proofs.lemmas.Bool.{cases_lt}
use Rattle.std.proofs.lemmas.List.{length-map, get_or-map, ext_get_or}
use Rattle.std.specs.List.{zip}
use Rattle.byte_table.specs.Fold.{Field, read, read_below}
use Rattle.byte_table.proofs.Loops.{AreOfSize, IsFilled, length-read_below, read_below-at, read_below-after}

pub pairs-at : {A C : Type 0} (a : A) (c : C) (xs : List A) (ys : List C) (k : ℕ) → length xs ≡ length ys
    → get_or (zip xs ys) k ((a, c)) ≡ (get_or xs k a, get_or ys k c)
pairs-at a c [] [] k len = refl
pairs-at a c [] (y ∷ ys) k len = absurd (omega (arith, len))
pairs-at a c (x ∷ xs) [] k len = absurd (omega (arith, len))
pairs-at a c (x ∷ xs) (y ∷ ys) zero len = refl
pairs-at a c (x ∷ xs) (y ∷ ys) (suc k) len = pairs-at a c xs ys k (omega (arith, len))

pub length-pairs : {A C : Type 0} (xs : List A) (ys : List C) → length xs ≡ length ys → length (zip xs ys) ≡ length xs
length-pairs [] ys len = refl
length-pairs (x ∷ xs) [] len = absurd (omega (arith, len))
length-pairs (x ∷ xs) (y ∷ ys) len = ap suc (length-pairs xs ys (omega (arith, len)))

pub firsts-pairs : {A C : Type 0} (xs : List A) (ys : List C) → length xs ≡ length ys → map (λ (t : A × C). t.0) (zip xs ys) ≡ xs
firsts-pairs [] ys len = refl
firsts-pairs (x ∷ xs) [] len = absurd (omega (arith, len))
firsts-pairs {A = A} (x ∷ xs) (y ∷ ys) len = ap (λ (zs : List A). x ∷ zs) (firsts-pairs xs ys (omega (arith, len)))

pub seconds-pairs : {A C : Type 0} (xs : List A) (ys : List C) → length xs ≡ length ys → map (λ (t : A × C). t.1) (zip xs ys) ≡ ys
seconds-pairs [] [] len = refl
seconds-pairs [] (y ∷ ys) len = absurd (omega (arith, len))
seconds-pairs (x ∷ xs) [] len = absurd (omega (arith, len))
seconds-pairs {C = C} (x ∷ xs) (y ∷ ys) len = ap (λ (zs : List C). y ∷ zs) (seconds-pairs xs ys (omega (arith, len)))

pub pairs-halves : {A C : Type 0} (ts : List (A × C)) → zip (map (λ (t : A × C). t.0) ts) (map (λ (t : A × C). t.1) ts) ≡ ts
pairs-halves [] = refl
pairs-halves {A = A} {C = C} (t ∷ ts) = ap (λ (us : List (A × C)). t ∷ us) (pairs-halves ts)

-- a part of each item that is read, in places of its own
pub part-filled : {F B T A : Type 0} (fields : ℕ → List (Field F B T)) (blank : T) (s : ℕ) → AreOfSize fields s → (part : T → A) (n all place : ℕ) (bytes : List ℕ)
    (xs : List A) (k : ℕ) → k ≡ n → n ≤ all → IsFilled (λ (j : ℕ). part (read (fields j) (place + s * j) bytes blank)) (part blank) xs k all
    → xs ≡ map part (read_below fields blank 0 n place bytes ++ replicate (all - n) blank)
part-filled {T = T} fields blank s size part n all place bytes xs k end few filled =
    let ts : List T = read_below fields blank 0 n place bytes ++ replicate (all - n) blank in
    let len : length ts ≡ all = length-read_below fields blank 0 n all place bytes few in
    ext_get_or (part blank) xs (map part ts) (filled.places ∙ sym (length-map ts part ∙ len)) (λ (i : ℕ) (h : i < length xs).
    each ts len i (omega (arith, h, filled.places)) ∙ sym (get_or-map part ts i blank (part blank) (omega (arith, h, filled.places, len))))
  where
    each : (ts : List T) → length ts ≡ all → (i : ℕ) → i < all
        → get_or xs i (part blank) ≡ part (get_or (read_below fields blank 0 n place bytes ++ replicate (all - n) blank) i blank)
    each ts len i small = elim (cases_lt i n) [
      | inl less ↦
          let at : i ≡ 0 + i = omega arith in
          filled.each i (omega (arith, less, end)) ∙ ap (λ (m : ℕ). part (read (fields m) (place + s * i) bytes blank)) at
          ∙ ap part (sym (read_below-at fields blank s size 0 n place bytes (replicate (all - n) blank) i less))
      | inr more ↦ filled.rest i (omega (arith, more, end)) small ∙ ap part (sym (read_below-after fields blank 0 n place bytes (all - n) i more))
    ]
