-- What the bodies do at once is what the pulses do one by one.
use Rattle.std.proofs.Common.{◌≡◌, ℕ, zero, suc, ◌+◌, ◌-◌, ◌*◌, ◌/◌, ◌%◌, ◌<◌, ◌≤◌, Bool, true, false, not}
use Rattle.std.proofs.Common.{◌&&◌, ◌||◌, cond, leb, Option, Some, None, ◌⊎◌, inl, inr, refl, sym, ap, subst}
use Rattle.std.proofs.Common.{◌∙◌, arith}
use Rattle.std.proofs.Math.Nat.{add-mul-div_right, div-eq_of_lt}
use Rattle.std.proofs.lemmas.Nat.{div-add-mod'}
use Rattle.std.proofs.lemmas.Bool.{cases_eq, cases_lt, cases_Bool, eq-eqb, ne_eqb, lt-ltb, le-ltb}
use Rattle.clk_units.specs.Events.{IsFirst}
use Rattle.rtc_cycle.specs.declared.parts.DividerParts.{DividerParts}
use Rattle.rtc_cycle.specs.Divider.{period, pulsed, pulsed_times, ticks_next, ticks_in, updates_in}
use Rattle.rtc_cycle.specs.Parts.{IsDivider}
use Rattle.rtc_cycle.specs.private.Stretch.{recurs, first_recurs, pulses_to_end, stretched}
use Rattle.rtc_cycle.proofs.Pulse.{IsDivider-pulsed_times, dv-pulsed_times, rs-pulsed_times, set-pulsed_times}
use Rattle.rtc_cycle.proofs.Times.{d-pulsed_times, period-some, ticks_in-is, cycle-at, cycle-while_set}
use Rattle.rtc_cycle.proofs.Times.{behind, updates_in-is, ticks_in-none}

-- the first of events at even distances
pub recurs-first : (next period n : ℕ) → 0 < next → IsFirst (recurs next period) n (first_recurs next n)
recurs-first next period n some = elim (cases_lt n next) [
  | inl early ↦ rw (lt-ltb n next early) (rw (lt-ltb n next early) refl)
  | inr late ↦
      let before : next - 1 < next = omega arith in
      let there : next ≤ next = omega arith in
      rw (le-ltb n next late) (some, late, rw (lt-ltb (next - 1) next before) refl, rw (le-ltb next next there) (omega arith))
]

-- counts that agree have one first
pub IsFirst-same : (f g : ℕ → ℕ) → ((m : ℕ) → f m ≡ g m) → (n : ℕ) (first : Option ℕ) → IsFirst f n first → IsFirst g n first
IsFirst-same f g same n None h = sym (same n) ∙ h
IsFirst-same f g same n (Some k) h = (h.0, h.1, sym (same (k - 1)) ∙ h.2, omega (arith, same k, h.3))

recurs-quotient : (d m n : ℕ) → 0 < m → recurs (m - d % m) m n + d / m ≡ (d + n) / m
recurs-quotient d m n some =
    let parts : d / m * m + d % m ≡ d = div-add-mod' d m in
    let whole : d + n ≡ d % m + n + d / m * m = omega arith in
    let quotient : (d + n) / m ≡ (d % m + n) / m + d / m = ap (λ (x : ℕ). x / m) whole ∙ add-mul-div_right (d % m + n) (d / m) some in
    let rest : recurs (m - d % m) m n ≡ (d % m + n) / m = elim (cases_lt n (m - d % m)) [
      | inl early ↦ let less : d % m + n < m = omega arith in rw (lt-ltb n (m - d % m) early) (sym (none (d % m + n) m less))
      | inr late ↦
          let small : d % m < m = omega arith in
          let moved : d % m + n ≡ n - (m - d % m) + 1 * m = omega arith in
          rw (le-ltb n (m - d % m) late) (sym (ap (λ (x : ℕ). x / m) moved ∙ add-mul-div_right (n - (m - d % m)) 1 some))
    ] in
    omega (arith, quotient, rest)
  where
    none : (x m : ℕ) → x < m → x / m ≡ 0
    none x m less = div-eq_of_lt less

-- the periodic events of a running divider recur
pub ticks_in-recurs : (p : DividerParts) → IsDivider p → p.dv ≡ 2 → 0 < p.rs → (n : ℕ) → recurs (period p.rs - p.d % period p.rs) (period p.rs) n ≡ ticks_in p n
ticks_in-recurs p valid runs some n =
    omega (arith, recurs-quotient p.d (period p.rs) n (period-some p.rs some valid.rs), ticks_in-is n p runs valid.below some valid.rs)

ends_recur : (d n : ℕ) (cycle : Bool) → d < 32768 → (cycle ≡ true → d ≤ 64)
    → recurs (cond cycle (65 - d) (32833 - d)) 32768 n ≡ (d + n + 32703) / 32768 - behind cycle
ends_recur d n true below early = elim (cases_lt n (65 - d)) [
  | inl before ↦ rw (lt-ltb n (65 - d) before) (omega (arith, early refl))
  | inr later ↦ rw (le-ltb n (65 - d) later) (omega (arith, early refl))
]
ends_recur d n false below early = elim (cases_lt n (32833 - d)) [
  | inl before ↦ rw (lt-ltb n (32833 - d) before) (omega arith)
  | inr later ↦ rw (le-ltb n (32833 - d) later) (omega arith)
]

-- so do the ends of update cycles
pub updates_in-recurs : (p : DividerParts) → IsDivider p → p.dv ≡ 2 → p.set ≡ false → (n : ℕ) → recurs (pulses_to_end p) 32768 n ≡ updates_in p n
updates_in-recurs p valid runs off n =
    ends_recur p.d n p.cycle valid.below (λ c. let early : (p.dv ≡ 2) × (p.set ≡ false) × (p.d ≤ 64) = valid.in_cycle c in early.2)
    ∙ sym (updates_in-is n p valid runs off)

-- pulses do nothing to a divider that is held
held-pulsed : (p : DividerParts) → (p.dv ≡ 2 → ⊥) → pulsed p ≡ p
unfolding pulsed
held-pulsed p held = rw (ne_eqb p.dv 2 held) refl

pub held-pulsed_times : (n : ℕ) (p : DividerParts) → (p.dv ≡ 2 → ⊥) → pulsed_times n p ≡ p
held-pulsed_times zero p held = refl
held-pulsed_times (suc n) p held = ap pulsed (held-pulsed_times n p held) ∙ held-pulsed p held

ticks_next-held : (p : DividerParts) → (p.dv ≡ 2 → ⊥) → ticks_next p ≡ false
unfolding ticks_next
ticks_next-held p held = rw (ne_eqb p.dv 2 held) refl

-- and bring no event
pub ticks_in-held : (n : ℕ) (p : DividerParts) → (p.dv ≡ 2 → ⊥) → ticks_in p n ≡ 0
ticks_in-held zero p held = refl
ticks_in-held (suc n) p held =
    let none_next : ticks_next (pulsed_times n p) ≡ false = ap ticks_next (held-pulsed_times n p held) ∙ ticks_next-held p held in
    rw none_next (ticks_in-held n p held)

fields : (q p : DividerParts) (d : ℕ) (c : Bool) → q.d ≡ d → q.cycle ≡ c → q.dv ≡ p.dv → q.rs ≡ p.rs → q.set ≡ p.set → q ≡ record p { d = d; cycle = c }
fields q p d c same_d same_c same_dv same_rs same_set =
    ap (λ (x : ℕ). let r : DividerParts = record { d = x; cycle = q.cycle; dv = q.dv; rs = q.rs; set = q.set } in r) same_d
    ∙ ap (λ (x : Bool). let r : DividerParts = record { d = d; cycle = x; dv = q.dv; rs = q.rs; set = q.set } in r) same_c
    ∙ ap (λ (x : ℕ). let r : DividerParts = record { d = d; cycle = c; dv = x; rs = q.rs; set = q.set } in r) same_dv
    ∙ ap (λ (x : ℕ). let r : DividerParts = record { d = d; cycle = c; dv = p.dv; rs = x; set = q.set } in r) same_rs
    ∙ ap (λ (x : Bool). let r : DividerParts = record { d = d; cycle = c; dv = p.dv; rs = p.rs; set = x } in r) same_set

cycle-stretched : (n : ℕ) (p : DividerParts) → IsDivider p → p.dv ≡ 2
    → (pulsed_times n p).cycle ≡ (not p.set && (leb ((p.d + n) % 32768) 64 && (p.cycle || leb 32768 (p.d + n))))
cycle-stretched n p valid runs = elim (cases_Bool p.set) [
  | inl on ↦ cycle-while_set n p valid on ∙ sym (ap (λ (b : Bool). not b && (leb ((p.d + n) % 32768) 64 && (p.cycle || leb 32768 (p.d + n)))) on)
  | inr off ↦ cycle-at n p valid runs off ∙ sym (ap (λ (b : Bool). not b && (leb ((p.d + n) % 32768) 64 && (p.cycle || leb 32768 (p.d + n)))) off)
]

-- the fields after n pulses
pub pulsed_times-is : (n : ℕ) (p : DividerParts) → IsDivider p → pulsed_times n p ≡ stretched n p
pulsed_times-is n p valid = elim (cases_eq p.dv 2) [
  | inl runs ↦
      fields (pulsed_times n p) p (stretched n p).d (stretched n p).cycle
      (rw (eq-eqb p.dv 2 runs) (d-pulsed_times n p runs valid.below))
      (rw (eq-eqb p.dv 2 runs) (cycle-stretched n p valid runs))
      (dv-pulsed_times n p) (rs-pulsed_times n p) (set-pulsed_times n p)
  | inr held ↦ held-pulsed_times n p held ∙ sym (rw (ne_eqb p.dv 2 held) refl)
]

pub IsDivider-stretched : (n : ℕ) (p : DividerParts) → IsDivider p → IsDivider (stretched n p)
IsDivider-stretched n p valid = subst IsDivider (pulsed_times-is n p valid) (IsDivider-pulsed_times n p valid)

-- no periodic event where the divider is held, or at rate 0
pub ticks_in-stopped : (n : ℕ) (p : DividerParts) → (p.dv ≡ 2 → ⊥) ⊎ ((p.dv ≡ 2) × (p.rs ≡ 0)) → ticks_in p n ≡ 0
ticks_in-stopped n p why = elim why [ inl held ↦ ticks_in-held n p held | inr none ↦ ticks_in-none n p none.1 ]

-- the first periodic event of a running divider
pub IsFirst-ticks_in : (p : DividerParts) → IsDivider p → p.dv ≡ 2 → 0 < p.rs → (n : ℕ)
    → IsFirst (ticks_in p) n (first_recurs (period p.rs - p.d % period p.rs) n)
IsFirst-ticks_in p valid runs some n =
    let positive : 0 < period p.rs = period-some p.rs some valid.rs in
    let next : 0 < period p.rs - p.d % period p.rs = within p.d (period p.rs) positive in
    IsFirst-same (recurs (period p.rs - p.d % period p.rs) (period p.rs)) (ticks_in p) (ticks_in-recurs p valid runs some) n _
    (recurs-first (period p.rs - p.d % period p.rs) (period p.rs) n next)
  where
    within : (d m : ℕ) → 0 < m → 0 < m - d % m
    within d m positive = omega arith

-- the end of the first update cycle
pub IsFirst-updates_in : (p : DividerParts) → IsDivider p → p.dv ≡ 2 → p.set ≡ false → 0 < pulses_to_end p → (n : ℕ)
    → IsFirst (updates_in p) n (first_recurs (pulses_to_end p) n)
IsFirst-updates_in p valid runs off next n =
    IsFirst-same (recurs (pulses_to_end p) 32768) (updates_in p) (updates_in-recurs p valid runs off) n _ (recurs-first (pulses_to_end p) 32768 n next)
