-- Bits of a number that are set where a test holds.
use Rattle.std.proofs.Common.{◌≡◌, ℕ, zero, suc, ◌^◌, ◌<◌, ◌≤◌, Bool, true, false, cond, ◌&&◌, ◌||◌, ltb, eqb, max, refl, ap, sym, ◌∙◌, inl, inr, arith, bit_or}
use Rattle.std.proofs.lemmas.Bool.{cases_order, cases_lt, lt-ltb, le-ltb}
use Rattle.std.proofs.lemmas.Nat.{or_lt, pow_below}
use Rattle.std.proofs.lemmas.Nat.Bits.{bit_at_or, bit_at-pow_same, bit_at-pow_other, bit_at-lt, same_from_bits}
use Rattle.std.specs.Int.{bit_at}
use Rattle.clk_units.specs.Bits.{bit}
use Rattle.hpet_registers.specs.Stretch.{with_bits}

-- equal tests set equal bits
pub with_bits-same : (p q : ℕ → Bool) (n s : ℕ) → ((k : ℕ) → k < n → p k ≡ q k) → with_bits p n s ≡ with_bits q n s
with_bits-same p q zero s e = refl
with_bits-same p q (suc n) s e =
    ap (λ (b : Bool). cond b (bit_or (with_bits p n s) (2 ^ n)) (with_bits p n s)) (e n (omega arith))
    ∙ ap (λ (x : ℕ). cond (q n) (bit_or x (2 ^ n)) x) (with_bits-same p q n s (λ k h. e k (omega arith)))

-- a test that never holds sets none
pub with_bits-none : (p : ℕ → Bool) (n s : ℕ) → ((k : ℕ) → p k ≡ false) → with_bits p n s ≡ s
with_bits-none p zero s e = refl
with_bits-none p (suc n) s e = ap (λ (b : Bool). cond b (bit_or (with_bits p n s) (2 ^ n)) (with_bits p n s)) (e n) ∙ with_bits-none p n s e

-- the bit at a place that is set, at the others, and where it isn't set
bit_at-set : (b : Bool) (x n i y : ℕ) → bit_at x i ≡ y → bit_at (2 ^ n) i ≡ 0 → bit_at (cond b (bit_or x (2 ^ n)) x) i ≡ y
bit_at-set true x n i y h none = bit_at_or x (2 ^ n) i ∙ omega (arith, none, h)
bit_at-set false x n i y h none = h

bit_at-set_here : (b : Bool) (x n y : ℕ) → bit_at x n ≡ y → y < 2 → bit_at (cond b (bit_or x (2 ^ n)) x) n ≡ max y (cond b 1 0)
bit_at-set_here true x n y h bit = bit_at_or x (2 ^ n) n ∙ omega (arith, bit_at-pow_same n, h)
bit_at-set_here false x n y h bit = omega arith

-- the bit at each place
pub bit_at-with_bits : (p : ℕ → Bool) (n s i : ℕ) → bit_at (with_bits p n s) i ≡ max (bit_at s i) (cond (ltb i n && p i) 1 0)
bit_at-with_bits p zero s i = rw (le-ltb i 0 (omega arith)) (omega arith)
bit_at-with_bits p (suc n) s i =
    let before : bit_at (with_bits p n s) i ≡ max (bit_at s i) (cond (ltb i n && p i) 1 0) = bit_at-with_bits p n s i in
    elim (cases_order i n) [
      | inl same ↦
          let out : bit_at (with_bits p n s) i ≡ bit_at s i = before
          ∙ (ap (λ (b : Bool). max (bit_at s i) (cond (b && p i) 1 0)) (le-ltb i n (omega arith)) ∙ omega arith) in
          let now : ltb i (suc n) ≡ true = lt-ltb i (suc n) (omega arith) in
          let step : bit_at (cond (p n) (bit_or (with_bits p n s) (2 ^ n)) (with_bits p n s)) n
          ≡ max (bit_at s i) (cond (p n) 1 0) = bit_at-set_here (p n) (with_bits p n s) n (bit_at s i) (ap (bit_at (with_bits p n s)) (sym same)
          ∙ out) (bit_at-lt s i) in
          ap (bit_at (with_bits p (suc n) s)) same
          ∙ (step ∙ (ap (λ (j : ℕ). max (bit_at s i) (cond (p j) 1 0)) (sym same) ∙ ap (λ (b : Bool). max (bit_at s i) (cond (b && p i) 1 0)) (sym now)))
      | inr other ↦ elim other [
        | inl less ↦
            let apart : i ≡ n → ⊥ = λ e. omega arith in
            let tests : ltb i n ≡ ltb i (suc n) = lt-ltb i n less ∙ sym (lt-ltb i (suc n) (omega arith)) in
            bit_at-set (p n) (with_bits p n s) n i (max (bit_at s i) (cond (ltb i (suc n) && p i) 1 0)) (before
            ∙ ap (λ (b : Bool). max (bit_at s i) (cond (b && p i) 1 0)) tests) (bit_at-pow_other n i apart)
        | inr more ↦
            let apart : i ≡ n → ⊥ = λ e. omega arith in
            let tests : ltb i n ≡ ltb i (suc n) = le-ltb i n (omega arith) ∙ sym (le-ltb i (suc n) (omega arith)) in
            bit_at-set (p n) (with_bits p n s) n i (max (bit_at s i) (cond (ltb i (suc n) && p i) 1 0)) (before
            ∙ ap (λ (b : Bool). max (bit_at s i) (cond (b && p i) 1 0)) tests) (bit_at-pow_other n i apart)
      ]
    ]

-- bits that are set twice are set where either test holds
pub with_bits-twice : (p q : ℕ → Bool) (n s : ℕ) → with_bits p n (with_bits q n s) ≡ with_bits (λ k. p k || q k) n s
with_bits-twice p q n s = same_from_bits (with_bits p n (with_bits q n s)) (with_bits (λ k. p k || q k) n s) (λ i.
    bit_at-with_bits p n (with_bits q n s) i
    ∙ (ap (λ (x : ℕ). max x (cond (ltb i n && p i) 1 0)) (bit_at-with_bits q n s i)
    ∙ (either (ltb i n) (p i) (q i) (bit_at s i) ∙ sym (bit_at-with_bits (λ k. p k || q k) n s i))))
  where
    either : (a b c : Bool) (x : ℕ) → max (max x (cond (a && c) 1 0)) (cond (a && b) 1 0) ≡ max x (cond (a && (b || c)) 1 0)
    either false b c x = omega arith
    either true true c x = lift c x
      where
        lift : (c : Bool) (x : ℕ) → max (max x (cond c 1 0)) 1 ≡ max x 1
        lift true x = omega arith
        lift false x = omega arith
    either true false c x = omega arith

-- a status bit is set where it was or where its test holds
pub bit-with_bits : (p : ℕ → Bool) (n s i : ℕ) → i < n → bit i (with_bits p n s) ≡ (bit i s || p i)
bit-with_bits p n s i inside =
    ap (λ (x : ℕ). eqb x 1) (bit_at-with_bits p n s i ∙ ap (λ (b : Bool). max (bit_at s i) (cond (b && p i) 1 0)) (lt-ltb i n inside))
    ∙ tested (p i) (bit_at s i) (bit_at-lt s i)
  where
    tested : (b : Bool) (x : ℕ) → x < 2 → eqb (max x (cond b 1 0)) 1 ≡ (eqb x 1 || b)
    tested b x h = grind arith

-- three tests set three bits
pub with_bits-lt : (p : ℕ → Bool) (n s : ℕ) → s < 8 → ((k : ℕ) → 3 ≤ k → k < n → p k ≡ false) → with_bits p n s < 8
with_bits-lt p zero s h few = h
with_bits-lt p (suc n) s h few = elim (cases_lt n 3) [
  | inl low ↦ kept (p n) (with_bits p n s) (2 ^ n) (with_bits-lt p n s h (λ k past small. few k past (omega arith))) (pow_below n 3 low)
  | inr high ↦ rw (few n high (omega arith)) (with_bits-lt p n s h (λ k past small. few k past (omega arith)))
]
  where
    kept : (b : Bool) (x y : ℕ) → x < 8 → y < 8 → cond b (bit_or x y) x < 8
    kept true x y f g = or_lt 3 x y f g
    kept false x y f g = f
