-- Reads and writes of the block.
use Rattle.std.proofs.Common.{◌≡◌, ℕ, zero, suc, ◌+◌, ◌*◌, ◌/◌, ◌%◌, ◌^◌, ◌<◌, ◌≤◌, Bool, ◌||◌, ◌&&◌, eqb}
use Rattle.std.proofs.Common.{inl, inr, ap, sym, ◌∙◌, arith, IsTrue}
use Rattle.std.proofs.Math.Nat.{div-eq_of_lt, mul_assoc, pow-suc}
use Rattle.std.proofs.Math.Pow.{pow_mono}
use Rattle.std.proofs.lemmas.Bool.{cases_eq, eq-eqb, ne_eqb, eqb-true, or_cases}
use Rattle.std.proofs.lemmas.Nat.{mod-mul-add, pow_pos}
use Rattle.clk_units.specs.Bits.{bit}
use Rattle.pm_timer.specs.declared.parts.PmParts.{PmParts}
use Rattle.pm_timer.specs.Parts.{IsPmTimer}
use Rattle.pm_timer.specs.Registers.{pm_block, pm_read, pm_written, pm_placed, is_pm_width}

-- nothing past the block
pub pm_read-past : (offset width : ℕ) (p : PmParts) → pm_block p < 2 ^ 96 → 12 ≤ offset → pm_read offset width p ≡ 0
unfolding pm_read
pm_read-past offset width p small past =
    let bits : 96 ≤ 8 * offset = omega arith in
    let far : 2 ^ 96 ≤ 2 ^ (8 * offset) = pow_mono bits in
    let below : pm_block p < 2 ^ (8 * offset) = omega arith in
    let none : pm_block p / 2 ^ (8 * offset) ≡ 0 = div-eq_of_lt below in
    ap (λ (x : ℕ). x % 2 ^ (8 * width)) none ∙ omega (arith, mod-mul-add 0 (2 ^ (8 * width)) 0 (pow_pos (8 * width)))

-- a width that is neither 1 nor 2
pub width_4 : (width : ℕ) → IsTrue (is_pm_width width) → (width ≡ 1 → ⊥) → (width ≡ 2 → ⊥) → width ≡ 4
width_4 width h one two = elim (or_cases (eqb width 1 || eqb width 2) (eqb width 4) h) [
  | inl few ↦ elim (or_cases (eqb width 1) (eqb width 2) few) [
    | inl e ↦ absurd (one (eqb-true width 1 e))
    | inr e ↦ absurd (two (eqb-true width 2 e))
  ]
  | inr e ↦ eqb-true width 4 e
]

-- bit 0 of what a write brings is that of its value, where it begins at byte 0
pub bit_0-placed : (offset value : ℕ) → bit 0 (pm_placed offset value) ≡ (eqb offset 0 && bit 0 value)
bit_0-placed zero value = ap (λ (x : ℕ). eqb (x / 1 % 2) 1) (omega arith)
bit_0-placed (suc k) value =
    let power : 2 ^ (8 * suc k) ≡ 2 ^ (8 * k + 7) * 2 = ap (λ (x : ℕ). 2 ^ x) (eight k) ∙ omega (arith, pow-suc 2 (8 * k + 7)) in
    let even : value * 2 ^ (8 * suc k) ≡ value * 2 ^ (8 * k + 7) * 2 = omega (arith, ap (λ (x : ℕ). value * x) power, mul_assoc value (2 ^ (8 * k + 7)) 2) in
    ne_eqb (value * 2 ^ (8 * suc k) / 1 % 2) 1 (omega (arith, even))
    ∙ sym (ap (λ (b : Bool). b && bit 0 value) (ne_eqb (suc k) 0 (λ e. omega (arith, e))))
  where
    eight : (k : ℕ) → 8 * suc k ≡ suc (8 * k + 7)
    eight k = omega arith

-- a write keeps the conditions
pub IsPmTimer-pm_written : (offset width value : ℕ) (p : PmParts) → IsPmTimer p → IsPmTimer (pm_written offset width value p)
unfolding pm_written
IsPmTimer-pm_written offset width value p h = elim (cases_eq p.bits 0) [
  | inl none ↦ rw (eq-eqb p.bits 0 none) h
  | inr some ↦ rw (ne_eqb p.bits 0 some) (record {
    bits = h.bits;
    count = h.count;
    no_status = λ none. absurd (some none);
    no_enable = λ none. absurd (some none);
  })
]
