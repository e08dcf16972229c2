-- The widths of a count, and arithmetic in each.
use Rattle.std.proofs.Common.{◌≡◌, ℕ, suc, ◌+◌, ◌-◌, ◌/◌, ◌%◌, ◌^◌, ◌<◌, Bool, true, false, cond, not, ◌||◌, eqb}
use Rattle.std.proofs.Common.{◌⊎◌, inl, inr, refl, sym, subst, ◌∙◌, arith, IsTrue}
use Rattle.std.proofs.lemmas.Bool.{eqb-true, or_cases, cases_eq, eq-eqb, ne_eqb}
use Rattle.clk_units.specs.Bits.{bit}
use Rattle.pm_timer.specs.Parts.{is_pm_bits}

-- no timer, or 24 bits, or 32
pub bits_cases : (b : ℕ) → IsTrue (is_pm_bits b) → (b ≡ 0) ⊎ (b ≡ 24) ⊎ (b ≡ 32)
bits_cases b h = elim (or_cases (eqb b 0 || eqb b 24) (eqb b 32) h) [
  | inl few ↦ elim (or_cases (eqb b 0) (eqb b 24) few) [
    | inl none ↦ inl (eqb-true b 0 none)
    | inr narrow ↦ inr (inl (eqb-true b 24 narrow))
  ]
  | inr wide ↦ inr (inr (eqb-true b 32 wide))
]

-- what holds for 24 bits and for 32 holds for every timer's
pub by_bits : (P : ℕ → Type 0) (b : ℕ) → IsTrue (is_pm_bits b) → 0 < b → P 24 → P 32 → P b
by_bits P b h there narrow wide = elim (bits_cases b h) [
  | inl none ↦ absurd (omega (arith, none, there))
  | inr (inl e) ↦ subst P (sym e) narrow
  | inr (inr e) ↦ subst P (sym e) wide
]

-- the count after one pulse more
pub count-suc : (b : ℕ) → IsTrue (is_pm_bits b) → 0 < b → (c n : ℕ) → ((c + n) % 2 ^ b + 1) % 2 ^ b ≡ (c + suc n) % 2 ^ b
count-suc b h there = by_bits (λ b. (c n : ℕ) → ((c + n) % 2 ^ b + 1) % 2 ^ b ≡ (c + suc n) % 2 ^ b) b h there (λ c n. omega arith) (λ c n. omega arith)

-- a bit against another
differ : (x y z : ℕ) → x < 2 → y < 2 → (x ≡ y → z ≡ 0 → ⊥) → ((x ≡ y → ⊥) → z ≡ 0)
    → cond (eqb x 1) (not (eqb y 1)) (eqb y 1) ≡ eqb z 0
differ x y z few few' same other = elim (cases_eq z 0) [
  | inl none ↦ elim (cases_eq x 1) [
    | inl one ↦ rw (eq-eqb x 1 one, ne_eqb y 1 (λ e. same (one ∙ sym e) none), eq-eqb z 0 none) refl
    | inr down ↦ elim (cases_eq y 1) [
      | inl one ↦ rw (ne_eqb x 1 down, eq-eqb y 1 one, eq-eqb z 0 none) refl
      | inr down' ↦ absurd (same (omega arith) none)
    ]
  ]
  | inr some ↦ elim (cases_eq x y) [
    | inl e ↦ rw (e, ne_eqb z 0 some) (equal (eqb y 1))
    | inr e ↦ absurd (some (other e))
  ]
]
  where
    equal : (b : Bool) → cond b (not b) b ≡ false
    equal true = refl
    equal false = refl

-- the most significant bit changes where half of the values is passed
pub top_bit-suc : (b : ℕ) → IsTrue (is_pm_bits b) → 0 < b → (c : ℕ) → c < 2 ^ b
    → cond (bit (b - 1) c) (not (bit (b - 1) ((c + 1) % 2 ^ b))) (bit (b - 1) ((c + 1) % 2 ^ b)) ≡ eqb ((c + 1) % 2 ^ (b - 1)) 0
top_bit-suc b h there = by_bits (λ b. (c : ℕ) → c < 2 ^ b
    → cond (bit (b - 1) c) (not (bit (b - 1) ((c + 1) % 2 ^ b))) (bit (b - 1) ((c + 1) % 2 ^ b)) ≡ eqb ((c + 1) % 2 ^ (b - 1)) 0) b h there
    (λ c small. differ (c / 2 ^ 23 % 2) ((c + 1) % 2 ^ 24 / 2 ^ 23 % 2) ((c + 1) % 2 ^ 23) (omega arith) (omega arith)
    (λ same none. omega arith) (λ other. omega arith))
    (λ c small. differ (c / 2 ^ 31 % 2) ((c + 1) % 2 ^ 32 / 2 ^ 31 % 2) ((c + 1) % 2 ^ 31) (omega arith) (omega arith)
    (λ same none. omega arith) (λ other. omega arith))
