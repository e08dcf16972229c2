-- Lemmas on one pulse of the divider, and on counts of events.
use Rattle.std.proofs.Common.{◌≡◌, ℕ, zero, suc, ◌+◌, ◌%◌, ◌<◌, ◌≤◌, Bool, true, false, not, ◌&&◌, ◌||◌}
use Rattle.std.proofs.Common.{cond, eqb, ◌⊎◌, inl, inr, refl, arith}
use Rattle.std.proofs.lemmas.Bool.{cases_eq, eq-eqb, ne_eqb, eqb-true, true≢false, false≢true, or_cases}
use Rattle.std.proofs.lemmas.Bool.{and_parts}
use Rattle.clk_units.specs.Events.{CountsUp}
use Rattle.clk_units.proofs.Events.{CountsUp-by_test}
use Rattle.rtc_cycle.specs.declared.parts.DividerParts.{DividerParts}
use Rattle.rtc_cycle.specs.Divider.{pulsed, pulsed_times, ticks_next, updates_next, ticks_in, updates_in}
use Rattle.rtc_cycle.specs.Parts.{IsDivider}

below_next : (b : Bool) (d : ℕ) → d < 32768 → cond b ((d + 1) % 32768) d < 32768
below_next true d h = omega arith
below_next false d h = h

held_next : (dv d : ℕ) → (dv ≡ 2) ⊎ (d ≡ 16384) → (dv ≡ 2) ⊎ (cond (eqb dv 2) ((d + 1) % 32768) d ≡ 16384)
held_next dv d h = elim (cases_eq dv 2) [
  | inl runs ↦ inl runs
  | inr held ↦ elim h [
    | inl runs ↦ inl runs
    | inr e ↦ inr (rw (ne_eqb dv 2 held) e)
  ]
]

-- the cycle's flag after a pulse of a divider that runs
cycle_running : (d : ℕ) (cycle set : Bool) → (cycle ≡ true → (set ≡ false) × (d ≤ 64))
    → ((eqb ((d + 1) % 32768) 0 && not set) || (cycle && not (eqb ((d + 1) % 32768) 65))) ≡ true → (set ≡ false) × ((d + 1) % 32768 ≤ 64)
cycle_running d true true h e = absurd (true≢false (h refl).0)
cycle_running d true false h e = elim (cases_eq ((d + 1) % 32768) 65) [
  | inl last ↦ absurd (false≢true (rw last at e))
  | inr other ↦ (refl, omega (arith, h refl))
]
cycle_running d false true h e = elim (or_cases (eqb ((d + 1) % 32768) 0 && false) false e) [
  | inl begins ↦ absurd (false≢true (and_parts (eqb ((d + 1) % 32768) 0) false begins).1)
  | inr goes_on ↦ absurd (false≢true goes_on)
]
cycle_running d false false h e = elim (or_cases (eqb ((d + 1) % 32768) 0 && true) false e) [
  | inl begins ↦ let zero : (d + 1) % 32768 ≡ 0 = eqb-true ((d + 1) % 32768) 0 (and_parts (eqb ((d + 1) % 32768) 0) true begins).0 in (refl, omega arith)
  | inr goes_on ↦ absurd (false≢true goes_on)
]

cycle_next : (dv d : ℕ) (cycle set : Bool) → (cycle ≡ true → (dv ≡ 2) × (set ≡ false) × (d ≤ 64))
    → cond (eqb dv 2) ((eqb ((d + 1) % 32768) 0 && not set) || (cycle && not (eqb ((d + 1) % 32768) 65))) cycle ≡ true
    → (dv ≡ 2) × (set ≡ false) × (cond (eqb dv 2) ((d + 1) % 32768) d ≤ 64)
cycle_next dv d cycle set h = elim (cases_eq dv 2) [
  | inl runs ↦ rw (eq-eqb dv 2 runs)
      (λ e. let after : (set ≡ false) × ((d + 1) % 32768 ≤ 64) = cycle_running d cycle set (λ c. let was : (dv ≡ 2) × (set ≡ false) × (d ≤ 64) =
      h c in (was.1, was.2)) e in (runs, after.0, after.1))
  | inr held ↦ rw (ne_eqb dv 2 held) (λ e. h e)
]

-- a pulse keeps the conditions
pub IsDivider-pulsed : (p : DividerParts) → IsDivider p → IsDivider (pulsed p)
unfolding pulsed
IsDivider-pulsed p h = record {
  below = below_next (eqb p.dv 2) p.d h.below;
  held = held_next p.dv p.d h.held;
  in_cycle = cycle_next p.dv p.d p.cycle p.set h.in_cycle;
  dv = h.dv;
  rs = h.rs;
}

-- n pulses keep them
pub IsDivider-pulsed_times : (n : ℕ) (p : DividerParts) → IsDivider p → IsDivider (pulsed_times n p)
IsDivider-pulsed_times zero p h = h
IsDivider-pulsed_times (suc n) p h = IsDivider-pulsed (pulsed_times n p) (IsDivider-pulsed_times n p h)

-- pulses leave DV, RS and SET
pub dv-pulsed_times : (n : ℕ) (p : DividerParts) → (pulsed_times n p).dv ≡ p.dv
unfolding pulsed
dv-pulsed_times zero p = refl
dv-pulsed_times (suc n) p = dv-pulsed_times n p

pub rs-pulsed_times : (n : ℕ) (p : DividerParts) → (pulsed_times n p).rs ≡ p.rs
unfolding pulsed
rs-pulsed_times zero p = refl
rs-pulsed_times (suc n) p = rs-pulsed_times n p

pub set-pulsed_times : (n : ℕ) (p : DividerParts) → (pulsed_times n p).set ≡ p.set
unfolding pulsed
set-pulsed_times zero p = refl
set-pulsed_times (suc n) p = set-pulsed_times n p

-- one pulse more
pub ticks_in-suc : (p : DividerParts) (n : ℕ) → ticks_in p (suc n) ≡ cond (ticks_next (pulsed_times n p)) (suc (ticks_in p n)) (ticks_in p n)
ticks_in-suc p n = refl

pub updates_in-suc : (p : DividerParts) (n : ℕ) → updates_in p (suc n) ≡ cond (updates_next (pulsed_times n p)) (suc (updates_in p n)) (updates_in p n)
updates_in-suc p n = refl

-- the events come at most one a pulse
pub CountsUp-ticks_in : (p : DividerParts) → CountsUp (ticks_in p)
CountsUp-ticks_in p = CountsUp-by_test (ticks_in p) (λ n. ticks_next (pulsed_times n p)) refl (ticks_in-suc p)

pub CountsUp-updates_in : (p : DividerParts) → CountsUp (updates_in p)
CountsUp-updates_in p = CountsUp-by_test (updates_in p) (λ n. updates_next (pulsed_times n p)) refl (updates_in-suc p)
