-- A stretch of pulses at once: the divider after it, and how many events it brought.
use Rattle.std.proofs.Common.{◌≡◌, ℕ, zero, suc, ◌+◌, ◌-◌, ◌*◌, ◌/◌, ◌%◌, ◌<◌, ◌≤◌, Bool, true, false, not}
use Rattle.std.proofs.Common.{◌&&◌, ◌||◌, cond, eqb, leb, Some, ◌⊎◌, inl, inr, refl, sym, ap, ◌∙◌, arith}
use Rattle.std.proofs.Math.Nat.{add-mul-div_right, mul-add-mod_self_left, suc-mul, mul_assoc, mul_comm}
use Rattle.std.proofs.lemmas.Nat.{div-add-mod', div-mul-add, mod-mul-add}
use Rattle.std.proofs.lemmas.Bool.{cases_eq, eq-eqb, ne_eqb, eqb-true, cases_lt, agree_below_at, or_cases}
use Rattle.std.proofs.lemmas.Bool.{and_parts, and_right, not-true, both_ways, or_parts, and_cases, leb-false}
use Rattle.std.proofs.lemmas.Bool.{not_from_false, false_from_ne_true, le-leb, lt-leb, cases_Bool}
use Rattle.std.proofs.lemmas.Bool.{false≢true}
use Rattle.std.proofs.Math.Bool.{or-true, and-true}
use Rattle.clk_units.specs.Events.{IsFirst}
use Rattle.rtc_cycle.specs.declared.parts.DividerParts.{DividerParts}
use Rattle.rtc_cycle.specs.Divider.{period, frequency, pulsed, pulsed_times, ticks_next, updates_next}
use Rattle.rtc_cycle.specs.Divider.{ticks_in, updates_in, uip_of, RunsCycles}
use Rattle.rtc_cycle.specs.Parts.{IsDivider}
use Rattle.rtc_cycle.proofs.Pulse.{IsDivider-pulsed_times, dv-pulsed_times, rs-pulsed_times, set-pulsed_times}

-- one pulse more, modulo a second
next_place : (x : ℕ) → (x % 32768 + 1) % 32768 ≡ suc x % 32768
next_place x = omega arith

-- a running divider after n pulses
pub d-pulsed_times : (n : ℕ) (p : DividerParts) → p.dv ≡ 2 → p.d < 32768 → (pulsed_times n p).d ≡ (p.d + n) % 32768
unfolding pulsed
d-pulsed_times zero p runs below = omega arith
d-pulsed_times (suc n) p runs below =
    rw (eq-eqb (pulsed_times n p).dv 2 (dv-pulsed_times n p ∙ runs), d-pulsed_times n p runs below) (omega arith)

-- the quotient of the next number
div-suc : (x m : ℕ) → 0 < m → suc x / m ≡ cond (eqb (suc x % m) 0) (suc (x / m)) (x / m)
div-suc x m positive = elim (cases_eq (x % m + 1) m) [
  | inl whole ↦
      let e : suc x ≡ suc (x / m) * m + 0 = omega (arith, div-add-mod' x m, suc-mul (x / m) m) in
      rw (e, div-mul-add (suc (x / m)) m 0 positive, mod-mul-add (suc (x / m)) m 0 positive) refl
  | inr within ↦
      let e : suc x ≡ x / m * m + (x % m + 1) = omega (arith, div-add-mod' x m) in
      let less : x % m + 1 < m = omega arith in
      let some : x % m + 1 ≡ 0 → ⊥ = omega arith in
      rw (e, div-mul-add (x / m) m (x % m + 1) less, mod-mul-add (x / m) m (x % m + 1) less, ne_eqb (x % m + 1) 0 some) refl
]

-- at each rate the period goes into the second
pub period-times : (rs : ℕ) → 0 < rs → rs ≤ 15 → period rs * frequency rs ≡ 32768
period-times rs some most =
    let e : ((eqb rs 0) || eqb (period rs * frequency rs) 32768) ≡ true =
    agree_below_at (λ r. eqb r 0 || eqb (period r * frequency r) 32768) (λ _. true) 16 rs refl (omega arith) in
    elim (or_cases (eqb rs 0) (eqb (period rs * frequency rs) 32768) e) [
      | inl none ↦ absurd (omega (arith, eqb-true rs 0 none))
      | inr times ↦ eqb-true (period rs * frequency rs) 32768 times
    ]

-- a part of a second, counted from its beginning or from earlier
mod-second : (y m f : ℕ) → m * f ≡ 32768 → y % 32768 % m ≡ y % m
mod-second y m f e =
    let parts : m * (f * (y / 32768)) + y % 32768 ≡ y = omega (arith, ap (λ (t : ℕ). t * (y / 32768)) e, mul_assoc m f (y / 32768)) in
    sym (ap (λ (x : ℕ). x % m) (sym parts) ∙ mul-add-mod_self_left m (f * (y / 32768)) (y % 32768))

-- whether the pulse after n brings a periodic event
pub ticks_next-pulsed_times : (n : ℕ) (p : DividerParts) → p.dv ≡ 2 → p.d < 32768 → 0 < p.rs → p.rs ≤ 15
    → ticks_next (pulsed_times n p) ≡ eqb (suc (p.d + n) % period p.rs) 0
unfolding ticks_next
ticks_next-pulsed_times n p runs below some most =
    let on : eqb (pulsed_times n p).dv 2 ≡ true = eq-eqb (pulsed_times n p).dv 2 (dv-pulsed_times n p ∙ runs) in
    let rate : eqb p.rs 0 ≡ false = ne_eqb p.rs 0 (omega arith) in
    let place : (pulsed_times n p).d ≡ (p.d + n) % 32768 = d-pulsed_times n p runs below in
    rw (
      on,
      rs-pulsed_times n p,
      rate,
      place,
      next_place (p.d + n),
      mod-second (suc (p.d + n)) (period p.rs) (frequency p.rs) (period-times p.rs some most),
    ) refl

-- a period isn't 0
pub period-some : (rs : ℕ) → 0 < rs → rs ≤ 15 → 0 < period rs
period-some rs some most = positive (period rs) (frequency rs) (period-times rs some most)
  where
    positive : (a b : ℕ) → a * b ≡ 32768 → 0 < a
    positive a b e = elim (cases_lt 0 a) [
      | inl less ↦ less
      | inr none ↦ let z : a ≡ 0 = omega arith in absurd (omega (arith, e, ap (λ (t : ℕ). t * b) z))
    ]

-- the periodic events are the multiples of the period that are passed
pub ticks_in-is : (n : ℕ) (p : DividerParts) → p.dv ≡ 2 → p.d < 32768 → 0 < p.rs → p.rs ≤ 15
    → ticks_in p n + p.d / period p.rs ≡ (p.d + n) / period p.rs
ticks_in-is zero p runs below some most =
    let same : p.d / period p.rs ≡ (p.d + 0) / period p.rs = ap (λ (x : ℕ). x / period p.rs) (omega arith) in
    omega (arith, same)
ticks_in-is (suc n) p runs below some most =
    let place : p.d + suc n ≡ suc (p.d + n) = omega arith in
    rw (place, div-suc (p.d + n) (period p.rs) (period-some p.rs some most), ticks_next-pulsed_times n p runs below some most)
    (grown (eqb (suc (p.d + n) % period p.rs) 0) (ticks_in p n) (p.d / period p.rs) ((p.d + n) / period p.rs) (ticks_in-is n p runs below some most))
  where
    grown : (b : Bool) (t a q : ℕ) → t + a ≡ q → cond b (suc t) t + a ≡ cond b (suc q) q
    grown true t a q e = omega arith
    grown false t a q e = e

ticks_next-none : (p : DividerParts) → p.rs ≡ 0 → ticks_next p ≡ false
unfolding ticks_next
ticks_next-none p none = rw (eq-eqb p.rs 0 none) (and_right (eqb p.dv 2) false refl)

-- rate 0 has none
pub ticks_in-none : (n : ℕ) (p : DividerParts) → p.rs ≡ 0 → ticks_in p n ≡ 0
ticks_in-none zero p none = refl
ticks_in-none (suc n) p none =
    let none_next : ticks_next (pulsed_times n p) ≡ false = ticks_next-none (pulsed_times n p) (rs-pulsed_times n p ∙ none) in
    rw none_next (ticks_in-none n p none)

-- in a second they are as many as the data sheet says
pub ticks_in-second : (p : DividerParts) → p.dv ≡ 2 → p.d < 32768 → p.rs ≤ 15 → ticks_in p 32768 ≡ frequency p.rs
ticks_in-second p runs below most = elim (cases_lt 0 p.rs) [
  | inl some ↦
      let whole : p.d + 32768 ≡ p.d + frequency p.rs * period p.rs = omega (arith, period-times p.rs some most, mul_comm (frequency p.rs) (period p.rs)) in
      let quotient : (p.d + 32768) / period p.rs ≡ p.d / period p.rs + frequency p.rs =
      ap (λ (x : ℕ). x / period p.rs) whole ∙ add-mul-div_right p.d (frequency p.rs) (period-some p.rs some most) in
      omega (arith, ticks_in-is 32768 p runs below some most, quotient)
  | inr none ↦ let z : p.rs ≡ 0 = omega arith in ticks_in-none 32768 p z ∙ sym (ap frequency z)
]

-- where no cycle is in progress, one begins only once the divider has passed its end, with SET 0
pub cycle-pulsed_times : (n : ℕ) (p : DividerParts) → p.d < 32768 → p.cycle ≡ false → (pulsed_times n p).cycle ≡ true
    → (p.dv ≡ 2) × (p.set ≡ false) × (32768 ≤ p.d + n)
unfolding pulsed
cycle-pulsed_times zero p below quiet h = absurd (both_ways p.cycle quiet h)
cycle-pulsed_times (suc n) p below quiet h = elim (cases_eq p.dv 2) [
  | inl runs ↦
      let on : eqb (pulsed_times n p).dv 2 ≡ true = eq-eqb (pulsed_times n p).dv 2 (dv-pulsed_times n p ∙ runs) in
      let after :
      ((eqb (((pulsed_times n p).d + 1) % 32768) 0 && not (pulsed_times n p).set)
      || ((pulsed_times n p).cycle && not (eqb (((pulsed_times n p).d + 1) % 32768) 65))) ≡ true =
      rw on at h in
      elim (or_cases (eqb (((pulsed_times n p).d + 1) % 32768) 0 && not (pulsed_times n p).set)
      ((pulsed_times n p).cycle && not (eqb (((pulsed_times n p).d + 1) % 32768) 65)) after) [
        | inl begins ↦
            let parts : (eqb (((pulsed_times n p).d + 1) % 32768) 0 ≡ true) × (not (pulsed_times n p).set ≡ true) =
            and_parts (eqb (((pulsed_times n p).d + 1) % 32768) 0) (not (pulsed_times n p).set) begins in (
              runs,
              sym (set-pulsed_times n p) ∙ not-true (pulsed_times n p).set parts.1,
              omega (arith, eqb-true (((pulsed_times n p).d + 1) % 32768) 0 parts.0, d-pulsed_times n p runs below),
            )
        | inr goes_on ↦ further
            (cycle-pulsed_times n p below quiet (and_parts (pulsed_times n p).cycle (not (eqb (((pulsed_times n p).d + 1) % 32768) 65)) goes_on).0)
      ]
  | inr held ↦
      let off : eqb (pulsed_times n p).dv 2 ≡ false = ne_eqb (pulsed_times n p).dv 2 (λ e. held (sym (dv-pulsed_times n p) ∙ e)) in
      further (cycle-pulsed_times n p below quiet (rw off at h))
]
  where
    further : (p.dv ≡ 2) × (p.set ≡ false) × (32768 ≤ p.d + n) → (p.dv ≡ 2) × (p.set ≡ false) × (32768 ≤ p.d + suc n)
    further h = (h.0, h.1, omega arith)

-- an update cycle that ends was in progress, and the divider has come to its 65th pulse
pub updates_next-true : (p : DividerParts) → updates_next p ≡ true → (p.dv ≡ 2) × (p.cycle ≡ true) × ((p.d + 1) % 32768 ≡ 65)
unfolding updates_next
updates_next-true p h =
    let parts : (eqb p.dv 2 ≡ true) × ((p.cycle && eqb ((p.d + 1) % 32768) 65) ≡ true) = and_parts (eqb p.dv 2) (p.cycle && eqb ((p.d + 1) % 32768) 65) h in
    let ends : (p.cycle ≡ true) × (eqb ((p.d + 1) % 32768) 65 ≡ true) = and_parts p.cycle (eqb ((p.d + 1) % 32768) 65) parts.1 in
    (eqb-true p.dv 2 parts.0, ends.0, eqb-true ((p.d + 1) % 32768) 65 ends.1)

-- where UIP is 0 no cycle is in progress, and with SET 0 the second has still more than 8 pulses
pub uip_of-false : (p : DividerParts) → uip_of p ≡ false → (p.cycle ≡ false) × (p.set ≡ false → p.d < 32760)
uip_of-false p h =
    let parts : (p.cycle ≡ false) × ((leb 32760 p.d && not p.set) ≡ false) = or_parts p.cycle (leb 32760 p.d && not p.set) h in (
      parts.0,
      λ on. elim (and_cases (leb 32760 p.d) (not p.set) parts.1) [
        | inl early ↦ leb-false 32760 p.d early
        | inr set ↦ absurd (both_ways (not p.set) set (not_from_false p.set on))
      ],
    )

-- no cycle begins in the 8 pulses after a UIP of 0
pub uip-early : (n : ℕ) (p : DividerParts) → p.d < 32768 → uip_of p ≡ false → n ≤ 8 → (pulsed_times n p).cycle ≡ false
uip-early n p below h few = false_from_ne_true (pulsed_times n p).cycle (λ begun.
    let quiet : (p.cycle ≡ false) × (p.set ≡ false → p.d < 32760) = uip_of-false p h in
    let passed : (p.dv ≡ 2) × (p.set ≡ false) × (32768 ≤ p.d + n) = cycle-pulsed_times n p below quiet.0 begun in
    let early : p.d < 32760 = quiet.1 passed.1 in
    omega arith)

-- no cycle ends in the 73 pulses after it
pub uip-quiet : (n : ℕ) (p : DividerParts) → p.d < 32768 → uip_of p ≡ false → n ≤ 73 → updates_in p n ≡ 0
uip-quiet zero p below h few = refl
uip-quiet (suc n) p below h few =
    let none_next : updates_next (pulsed_times n p) ≡ false = false_from_ne_true (updates_next (pulsed_times n p)) (λ ends.
    let quiet : (p.cycle ≡ false) × (p.set ≡ false → p.d < 32760) = uip_of-false p h in
    let end : ((pulsed_times n p).dv ≡ 2) × ((pulsed_times n p).cycle ≡ true) × (((pulsed_times n p).d + 1) % 32768 ≡ 65) =
    updates_next-true (pulsed_times n p) ends in
    let passed : (p.dv ≡ 2) × (p.set ≡ false) × (32768 ≤ p.d + n) = cycle-pulsed_times n p below quiet.0 end.1 in
    let early : p.d < 32760 = quiet.1 passed.1 in
    let place : (pulsed_times n p).d ≡ (p.d + n) % 32768 = d-pulsed_times n p passed.0 below in
    omega arith) in
    rw none_next (uip-quiet n p below h (omega arith))

-- a running divider with SET 0: at place y from the start of its second a cycle is in progress in the first 65
-- pulses, of the first second only where it already was
cycle_goes_on : (y : ℕ) (cycle : Bool)
    → ((eqb ((y % 32768 + 1) % 32768) 0 && true) || ((leb (y % 32768) 64 && (cycle || leb 32768 y)) && not (eqb ((y % 32768 + 1) % 32768) 65)))
    ≡ (leb (suc y % 32768) 64 && (cycle || leb 32768 (suc y)))
cycle_goes_on y cycle = elim (cases_eq (suc y % 32768) 0) [
  | inl begins ↦
      let past : 32768 ≤ suc y = omega arith in
      rw (next_place y, begins, le-leb 32768 (suc y) past, or-true cycle) refl
  | inr within ↦ elim (cases_eq (suc y % 32768) 65) [
    | inl ends ↦ rw (next_place y, ends) (and_right (leb (y % 32768) 64 && (cycle || leb 32768 y)) false refl)
    | inr other ↦ elim (cases_lt (suc y % 32768) 65) [
      | inl early ↦
          let was : y % 32768 ≤ 64 = omega arith in
          let is : suc y % 32768 ≤ 64 = omega arith in
          let same : leb 32768 y ≡ leb 32768 (suc y) = same_second y within in
          rw (
            next_place y,
            ne_eqb (suc y % 32768) 0 within,
            ne_eqb (suc y % 32768) 65 other,
            le-leb (y % 32768) 64 was,
            le-leb (suc y % 32768) 64 is,
            same,
          ) (and-true (cycle || leb 32768 (suc y)))
      | inr late ↦
          let was : 64 < y % 32768 = omega arith in
          let is : 64 < suc y % 32768 = omega arith in
          rw (next_place y, ne_eqb (suc y % 32768) 0 within, lt-leb (y % 32768) 64 was, lt-leb (suc y % 32768) 64 is) refl
    ]
  ]
]
  where
    same_second : (y : ℕ) → (suc y % 32768 ≡ 0 → ⊥) → leb 32768 y ≡ leb 32768 (suc y)
    same_second y within = elim (cases_lt y 32768) [
      | inl first ↦
          let still : suc y < 32768 = elim (cases_eq (suc y) 32768) [
            | inl e ↦ absurd (within (omega arith))
            | inr ne ↦ omega arith
          ] in
          rw (lt-leb 32768 y first, lt-leb 32768 (suc y) still) refl
      | inr later ↦
          let still : 32768 ≤ suc y = omega arith in
          rw (le-leb 32768 y later, le-leb 32768 (suc y) still) refl
    ]

cycle_now : (d : ℕ) (cycle : Bool) → d < 32768 → (cycle ≡ true → d ≤ 64) → cycle ≡ (leb ((d + 0) % 32768) 64 && (cycle || leb 32768 (d + 0)))
cycle_now d true below early = let few : (d + 0) % 32768 ≤ 64 = omega (arith, early refl) in rw (le-leb ((d + 0) % 32768) 64 few) refl
cycle_now d false below early =
    let few : d + 0 < 32768 = omega arith in sym (and_right (leb ((d + 0) % 32768) 64) (leb 32768 (d + 0)) (lt-leb 32768 (d + 0) few))

-- whether a cycle is in progress after n pulses of a running divider with SET 0
pub cycle-at : (n : ℕ) (p : DividerParts) → IsDivider p → p.dv ≡ 2 → p.set ≡ false
    → (pulsed_times n p).cycle ≡ (leb ((p.d + n) % 32768) 64 && (p.cycle || leb 32768 (p.d + n)))
unfolding pulsed
cycle-at zero p valid runs off = cycle_now p.d p.cycle valid.below (λ c. let early : (p.dv ≡ 2) × (p.set ≡ false) × (p.d ≤ 64) = valid.in_cycle c in early.2)
cycle-at (suc n) p valid runs off =
    let on : eqb (pulsed_times n p).dv 2 ≡ true = eq-eqb (pulsed_times n p).dv 2 (dv-pulsed_times n p ∙ runs) in
    let unset : not (pulsed_times n p).set ≡ true = not_from_false (pulsed_times n p).set (set-pulsed_times n p ∙ off) in
    let place : p.d + suc n ≡ suc (p.d + n) = omega arith in
    rw (on, unset, d-pulsed_times n p runs valid.below, cycle-at n p valid runs off, place) (cycle_goes_on (p.d + n) p.cycle)

-- with SET 1 none is
pub cycle-while_set : (n : ℕ) (p : DividerParts) → IsDivider p → p.set ≡ true → (pulsed_times n p).cycle ≡ false
cycle-while_set n p valid on = false_from_ne_true (pulsed_times n p).cycle (λ c.
    let off : ((pulsed_times n p).dv ≡ 2) × ((pulsed_times n p).set ≡ false) × ((pulsed_times n p).d ≤ 64) = (IsDivider-pulsed_times n p valid).in_cycle c in
    both_ways p.set (sym (set-pulsed_times n p) ∙ off.1) on)

ending : (y : ℕ) (cycle : Bool)
    → ((leb (y % 32768) 64 && (cycle || leb 32768 y)) && eqb (suc y % 32768) 65) ≡ (eqb (suc y % 32768) 65 && (cycle || leb 32768 y))
ending y cycle = elim (cases_eq (suc y % 32768) 65) [
  | inl ends ↦
      let was : y % 32768 ≤ 64 = omega arith in
      rw (ends, le-leb (y % 32768) 64 was) (and-true (cycle || leb 32768 y))
  | inr other ↦ rw (ne_eqb (suc y % 32768) 65 other) (and_right (leb (y % 32768) 64 && (cycle || leb 32768 y)) false refl)
]

-- whether the pulse after n ends a cycle
pub updates_next-at : (n : ℕ) (p : DividerParts) → IsDivider p → p.dv ≡ 2 → p.set ≡ false
    → updates_next (pulsed_times n p) ≡ (eqb (suc (p.d + n) % 32768) 65 && (p.cycle || leb 32768 (p.d + n)))
unfolding updates_next
updates_next-at n p valid runs off =
    let on : eqb (pulsed_times n p).dv 2 ≡ true = eq-eqb (pulsed_times n p).dv 2 (dv-pulsed_times n p ∙ runs) in
    rw (on, cycle-at n p valid runs off, d-pulsed_times n p runs valid.below, next_place (p.d + n)) (ending (p.d + n) p.cycle)

-- the update that a running divider in mid-second has already made
abbrev pub behind : Bool → ℕ
behind cycle = cond cycle 0 1

none_yet : (d : ℕ) (cycle : Bool) → d < 32768 → (cycle ≡ true → d ≤ 64) → 0 ≡ (d + 0 + 32703) / 32768 - behind cycle
none_yet d true below early = omega (arith, early refl)
none_yet d false below early = omega arith

counted_on : (y : ℕ) (cycle : Bool) (u : ℕ) → u ≡ (y + 32703) / 32768 - behind cycle
    → cond (eqb (suc y % 32768) 65 && (cycle || leb 32768 y)) (suc u) u ≡ (suc y + 32703) / 32768 - behind cycle
counted_on y cycle u e = elim (cases_eq (suc y % 32768) 65) [
  | inl ends ↦ rw (ends) (ended cycle ends e)
  | inr other ↦ rw (ne_eqb (suc y % 32768) 65 other) (omega arith)
]
  where
    ended : (cycle : Bool) → suc y % 32768 ≡ 65 → u ≡ (y + 32703) / 32768 - behind cycle
        → cond (cycle || leb 32768 y) (suc u) u ≡ (suc y + 32703) / 32768 - behind cycle
    ended true ends e = omega arith
    ended false ends e = elim (cases_lt y 32768) [
      | inl first ↦ rw (lt-leb 32768 y first) (omega arith)
      | inr later ↦ rw (le-leb 32768 y later) (omega arith)
    ]

-- the update cycles that end are the 65th pulses of seconds that are passed, the first second's only where its cycle is in progress
pub updates_in-is : (n : ℕ) (p : DividerParts) → IsDivider p → p.dv ≡ 2 → p.set ≡ false
    → updates_in p n ≡ (p.d + n + 32703) / 32768 - behind p.cycle
updates_in-is zero p valid runs off =
    none_yet p.d p.cycle valid.below (λ c. let early : (p.dv ≡ 2) × (p.set ≡ false) × (p.d ≤ 64) = valid.in_cycle c in early.2)
updates_in-is (suc n) p valid runs off =
    let place : p.d + suc n ≡ suc (p.d + n) = omega arith in
    rw (place, updates_next-at n p valid runs off) (counted_on (p.d + n) p.cycle (updates_in p n) (updates_in-is n p valid runs off))

-- a divider that is held, or with SET 1, ends none
pub updates_in-none : (n : ℕ) (p : DividerParts) → IsDivider p → (p.dv ≡ 2 → p.set ≡ false → ⊥) → updates_in p n ≡ 0
updates_in-none zero p valid stops = refl
updates_in-none (suc n) p valid stops =
    let none_next : updates_next (pulsed_times n p) ≡ false = false_from_ne_true (updates_next (pulsed_times n p)) (λ ends.
    let end : ((pulsed_times n p).dv ≡ 2) × ((pulsed_times n p).cycle ≡ true) × (((pulsed_times n p).d + 1) % 32768 ≡ 65) =
    updates_next-true (pulsed_times n p) ends in
    let off : ((pulsed_times n p).dv ≡ 2) × ((pulsed_times n p).set ≡ false) × ((pulsed_times n p).d ≤ 64) =
    (IsDivider-pulsed_times n p valid).in_cycle end.1 in
    stops (sym (dv-pulsed_times n p) ∙ end.0) (sym (set-pulsed_times n p) ∙ off.1)) in
    rw none_next (updates_in-none n p valid stops)

-- where an update cycle ends, the divider runs with SET 0
pub runs-updates_in : (n : ℕ) (p : DividerParts) → IsDivider p → 0 < updates_in p n → (p.dv ≡ 2) × (p.set ≡ false)
runs-updates_in n p valid some = elim (cases_eq p.dv 2) [
  | inl runs ↦ elim (cases_Bool p.set) [
    | inl on ↦ absurd (omega (arith, updates_in-none n p valid (λ _ off. both_ways p.set off on)))
    | inr off ↦ (runs, off)
  ]
  | inr held ↦ absurd (omega (arith, updates_in-none n p valid (λ runs _. held runs)))
]

a_second_apart : (cycle : Bool) (d n f k : ℕ) → 0 < f → (d + (f - 1) + 32703) / 32768 - behind cycle ≡ 0 → 0 < (d + f + 32703) / 32768 - behind cycle
    → 0 < k → k ≤ (d + n + 32703) / 32768 - behind cycle
    → (f + (k - 1) * 32768 ≤ n) × ((d + (f + (k - 1) * 32768) + 32703) / 32768 - behind cycle ≡ k) ×
    ((d + (f + (k - 1) * 32768 - 1) + 32703) / 32768 - behind cycle ≡ k - 1)
a_second_apart true d n f k some before first has few = (omega arith, omega arith, omega arith)
a_second_apart false d n f k some before first has few = (omega arith, omega arith, omega arith)

-- update cycles end a second apart: the k-th of n pulses' cycles ends k - 1 seconds after the first
pub updates_in-apart : (p : DividerParts) → IsDivider p → (n f k : ℕ) → IsFirst (updates_in p) n (Some f) → 0 < k → k ≤ updates_in p n
    → (f + (k - 1) * 32768 ≤ n) × (updates_in p (f + (k - 1) * 32768) ≡ k) × (updates_in p (f + (k - 1) * 32768 - 1) ≡ k - 1)
updates_in-apart p valid n f k first has few =
    let on : (p.dv ≡ 2) × (p.set ≡ false) = runs-updates_in f p valid first.3 in
    let at : (m : ℕ) → updates_in p m ≡ (p.d + m + 32703) / 32768 - behind p.cycle = λ m. updates_in-is m p valid on.0 on.1 in
    let apart : (f + (k - 1) * 32768 ≤ n) × ((p.d + (f + (k - 1) * 32768) + 32703) / 32768 - behind p.cycle ≡ k)
    × ((p.d + (f + (k - 1) * 32768 - 1) + 32703) / 32768 - behind p.cycle ≡ k - 1) =
    a_second_apart p.cycle p.d n f k first.0 (sym (at (f - 1)) ∙ first.2) (omega (arith, at f, first.3)) has (omega (arith, at n)) in
    (apart.0, at (f + (k - 1) * 32768) ∙ apart.1, at (f + (k - 1) * 32768 - 1) ∙ apart.2)

-- a second ends one update cycle, where its own is in progress or over
pub updates_in-second : (p : DividerParts) → IsDivider p → RunsCycles p → updates_in p 32768 ≡ 1
updates_in-second p valid runs =
    updates_in-is 32768 p valid runs.runs runs.unset
    ∙ one p.cycle p.d valid.below (λ c. let early : (p.dv ≡ 2) × (p.set ≡ false) × (p.d ≤ 64) = valid.in_cycle c in early.2) runs.begun
  where
    one : (cycle : Bool) (d : ℕ) → d < 32768 → (cycle ≡ true → d ≤ 64) → (cycle ≡ true) ⊎ (65 ≤ d) → (d + 32768 + 32703) / 32768 - behind cycle ≡ 1
    one true d below early begun = omega (arith, early refl)
    one false d below early (inl begun) = absurd (false≢true begun)
    one false d below early (inr late) = omega arith
