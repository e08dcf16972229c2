-- Stretches that bring no event, by what the bodies test.
use Rattle.std.proofs.Common.{◌≡◌, ℕ, ◌+◌, ◌-◌, ◌/◌, ◌^◌, ◌<◌, true, not, eqb}
use Rattle.std.proofs.Common.{inl, inr, refl, sym, ap, ◌∙◌, arith}
use Rattle.std.proofs.lemmas.Bool.{cases_eq, cases_Bool, eq-eqb, lt-ltb, both_ways, not-true}
use Rattle.rtc_cycle.specs.declared.parts.DividerParts.{DividerParts}
use Rattle.rtc_cycle.specs.Divider.{period, ticks_in, updates_in}
use Rattle.rtc_cycle.specs.Parts.{IsDivider}
use Rattle.rtc_cycle.specs.private.Stretch.{pulses_to_end}
use Rattle.rtc_cycle.proofs.Times.{ticks_in-is, ticks_in-none, updates_in-none}
use Rattle.rtc_cycle.proofs.Recurs.{ticks_in-held, updates_in-recurs}

-- a test that finds two numbers to differ
pub other : (a b : ℕ) → not (eqb a b) ≡ true → a ≡ b → ⊥
other a b differ same = both_ways (eqb a b) (not-true (eqb a b) differ) (eq-eqb a b same)

-- no multiple of the period is passed
pub ticks_in-passed : (p : DividerParts) → IsDivider p → (bits n : ℕ) → (0 < p.rs → 2 ^ bits ≡ period p.rs)
    → (p.d + n) / 2 ^ bits ≡ p.d / 2 ^ bits → ticks_in p n ≡ 0
ticks_in-passed p valid bits n whole same = elim (cases_eq p.dv 2) [
  | inl runs ↦ elim (cases_eq p.rs 0) [
    | inl none ↦ ticks_in-none n p none
    | inr rate ↦
        let some : 0 < p.rs = omega arith in
        let passed : (p.d + n) / period p.rs ≡ p.d / period p.rs =
        ap (λ (m : ℕ). (p.d + n) / m) (sym (whole some)) ∙ (same ∙ ap (λ (m : ℕ). p.d / m) (whole some)) in
        omega (arith, ticks_in-is n p runs valid.below some valid.rs, passed)
  ]
  | inr held ↦ ticks_in-held n p held
]

-- the end of a cycle isn't reached
pub updates_in-before : (p : DividerParts) → IsDivider p → (n : ℕ) → n < pulses_to_end p → updates_in p n ≡ 0
updates_in-before p valid n less = elim (cases_eq p.dv 2) [
  | inl runs ↦ elim (cases_Bool p.set) [
    | inl on ↦ updates_in-none n p valid (λ _ off. both_ways p.set off on)
    | inr off ↦ sym (updates_in-recurs p valid runs off n) ∙ rw (lt-ltb n (pulses_to_end p) less) refl
  ]
  | inr held ↦ updates_in-none n p valid (λ runs _. held runs)
]
