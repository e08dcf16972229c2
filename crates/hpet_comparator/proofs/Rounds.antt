-- Many pulses of a timer at once: from one match to the next, and over any stretch.
use Rattle.std.proofs.Common.{◌≡◌, ℕ, zero, suc, ◌+◌, ◌-◌, ◌*◌, ◌/◌, ◌%◌, ◌^◌, ◌<◌, ◌≤◌, Bool, true, false, cond, ◌&&◌, ltb, Some, refl, ap, sym, ◌∙◌}
use Rattle.std.proofs.Common.{subst, inl, inr, arith, IsTrue, ◌↔◌}
use Rattle.std.proofs.lemmas.Bool.{cases_lt, lt-ltb, le-ltb, eq-eqb, ne_eqb, eqb-true}
use Rattle.std.proofs.lemmas.Nat.{mod_below, div-add-mod'}
use Rattle.clk_units.specs.Events.{IsFirst}
use Rattle.hpet_comparator.specs.Counter.{counter_after}
use Rattle.hpet_comparator.specs.declared.parts.TimerParts.{TimerParts}
use Rattle.hpet_comparator.specs.Parts.{IsTimer, modulus, is_32_bit, is_periodic}
use Rattle.hpet_comparator.specs.Stretch.{matches_at, pulsed, pulsed_times, matches_in, spacing_of, pulses_before}
use Rattle.hpet_comparator.specs.private.Rounds.{IsDue, advanced}
use Rattle.hpet_comparator.proofs.Writes.{modulus-pos, below}

-- the counter in the timer's width
counter_within : (b : Bool) (c k : ℕ) → (c + k) % 2 ^ 64 % cond b (2 ^ 32) (2 ^ 64) ≡ (c + k) % cond b (2 ^ 32) (2 ^ 64)
counter_within true c k = omega arith
counter_within false c k = omega arith

-- two places less than a round apart differ
places_differ : (b : Bool) (c k d : ℕ) → 0 < k → k < d → d ≤ cond b (2 ^ 32) (2 ^ 64)
    → (c + k) % cond b (2 ^ 32) (2 ^ 64) ≡ (c + d) % cond b (2 ^ 32) (2 ^ 64) → ⊥
places_differ true c k d h less near same = omega arith
places_differ false c k d h less near same = omega arith

-- the pulse that is due matches ..
pub matches_at-due : (c d : ℕ) (t : TimerParts) → IsDue c t d → matches_at (counter_after c d) t ≡ true
unfolding matches_at
matches_at-due c d t h = eq-eqb (counter_after c d % modulus t) t.comparator (counter_within (is_32_bit t) c d ∙ h.reaches)

-- .. and none before it does
pub matches_at-early : (c d k : ℕ) (t : TimerParts) → IsDue c t d → 0 < k → k < d → matches_at (counter_after c k) t ≡ false
unfolding matches_at
matches_at-early c d k t h ahead less = ne_eqb (counter_after c k % modulus t) t.comparator
    (λ (same : counter_after c k % modulus t ≡ t.comparator). places_differ (is_32_bit t) c k d ahead less h.within (sym (counter_within (is_32_bit t) c k)
    ∙ (same ∙ sym h.reaches)))

-- a match of the first pulse makes it due
pub due-matches_at : (c : ℕ) (t : TimerParts) → IsTrue (matches_at (counter_after c 1) t) → IsDue c t 1
unfolding matches_at
due-matches_at c t h = record {
  ahead = omega arith;
  within = omega (arith, modulus-pos t);
  reaches = sym (counter_within (is_32_bit t) c 1) ∙ eqb-true (counter_after c 1 % modulus t) t.comparator h;
}

-- a pulse that doesn't match leaves the timer
pulsed-still : (c : ℕ) (t : TimerParts) → matches_at c t ≡ false → pulsed c t ≡ t
unfolding pulsed
pulsed-still c t h = ap (λ (b : Bool). record t { comparator = cond (b && is_periodic t) ((t.comparator + t.period) % modulus t) t.comparator }) h

-- one that matches takes it on
pulsed-match : (c : ℕ) (t : TimerParts) → matches_at c t ≡ true → pulsed c t ≡ advanced 1 t
unfolding pulsed
pulsed-match c t h =
    ap (λ (b : Bool). record t { comparator = cond (b && is_periodic t) ((t.comparator + t.period) % modulus t) t.comparator }) h
    ∙ ap (λ (p : ℕ). record t { comparator = cond (is_periodic t) ((t.comparator + p) % modulus t) t.comparator }) (omega arith)

-- the pulses before the one that is due
pub early : (c d n : ℕ) (t : TimerParts) → IsDue c t d → n < d → (pulsed_times c n t ≡ t) × (matches_in c t n ≡ 0)
early c d zero t h less = (refl, refl)
early c d (suc n) t h less =
    let before : (pulsed_times c n t ≡ t) × (matches_in c t n ≡ 0) = early c d n t h (omega arith) in
    let quiet : matches_at (counter_after c (suc n)) t ≡ false = matches_at-early c d (suc n) t h (omega arith) less in
    let test : matches_at (counter_after c (suc n)) (pulsed_times c n t) ≡ false = ap (matches_at (counter_after c (suc n))) before.0 ∙ quiet in (
      ap (pulsed (counter_after c (suc n))) before.0 ∙ pulsed-still (counter_after c (suc n)) t quiet,
      ap (λ (b : Bool). cond b (suc (matches_in c t n)) (matches_in c t n)) test ∙ before.1,
    )

-- up to the one that is due
up_to_suc : (c n : ℕ) (t : TimerParts) → IsDue c t (suc n) → (pulsed_times c (suc n) t ≡ advanced 1 t) × (matches_in c t (suc n) ≡ 1)
up_to_suc c n t h =
    let before : (pulsed_times c n t ≡ t) × (matches_in c t n ≡ 0) = early c (suc n) n t h (omega arith) in
    let now : matches_at (counter_after c (suc n)) t ≡ true = matches_at-due c (suc n) t h in
    let test : matches_at (counter_after c (suc n)) (pulsed_times c n t) ≡ true = ap (matches_at (counter_after c (suc n))) before.0 ∙ now in (
      ap (pulsed (counter_after c (suc n))) before.0 ∙ pulsed-match (counter_after c (suc n)) t now,
      ap (λ (b : Bool). cond b (suc (matches_in c t n)) (matches_in c t n)) test ∙ ap suc before.1,
    )

pub up_to_due : (c d : ℕ) (t : TimerParts) → IsDue c t d → (pulsed_times c d t ≡ advanced 1 t) × (matches_in c t d ≡ 1)
up_to_due c d t h =
    let e : suc (d - 1) ≡ d = omega (arith, h.ahead) in
    subst (λ (n : ℕ). (pulsed_times c n t ≡ advanced 1 t) × (matches_in c t n ≡ 1)) e (up_to_suc c (d - 1) t (subst (IsDue c t) (sym e) h))

-- two stretches are one
pub parted : (c m n : ℕ) (t : TimerParts)
    → (pulsed_times c (m + n) t ≡ pulsed_times (counter_after c m) n (pulsed_times c m t)) ×
    (matches_in c t (m + n) ≡ matches_in c t m + matches_in (counter_after c m) (pulsed_times c m t) n)
parted c m zero t = let e : m + 0 ≡ m = omega arith in rw e (refl, omega arith)
parted c m (suc n) t =
    let before : (pulsed_times c (m + n) t ≡ pulsed_times (counter_after c m) n (pulsed_times c m t)) ×
    (matches_in c t (m + n) ≡ matches_in c t m + matches_in (counter_after c m) (pulsed_times c m t) n) = parted c m n t in
    let place : counter_after c (suc (m + n)) ≡ counter_after (counter_after c m) (suc n) = omega arith in
    let test : matches_at (counter_after c (suc (m + n))) (pulsed_times c (m + n) t)
    ≡ matches_at (counter_after (counter_after c m) (suc n)) (pulsed_times (counter_after c m) n (pulsed_times c m t)) = ap
    (λ (x : ℕ). matches_at x (pulsed_times c (m + n) t)) place ∙ ap (matches_at (counter_after (counter_after c m) (suc n))) before.0 in
    let e : m + suc n ≡ suc (m + n) = omega arith in
    rw e (
      ap (λ (x : ℕ). pulsed x (pulsed_times c (m + n) t)) place ∙ ap (pulsed (counter_after (counter_after c m) (suc n))) before.0,
      ap (λ (b : Bool). cond b (suc (matches_in c t (m + n))) (matches_in c t (m + n))) test
          ∙ counted (matches_at (counter_after (counter_after c m) (suc n)) (pulsed_times (counter_after c m) n (pulsed_times c m t)))
          (matches_in c t (m + n)) (matches_in c t m) (matches_in (counter_after c m) (pulsed_times c m t) n) before.1,
    )
  where
    counted : (b : Bool) (x y z : ℕ) → x ≡ y + z → cond b (suc x) x ≡ y + cond b (suc z) z
    counted true x y z e = omega arith
    counted false x y z e = omega arith

-- after no match, and after one and then q
advance-zero : (b p : Bool) (x y : ℕ) → x < cond b (2 ^ 32) (2 ^ 64) → cond p ((x + 0 * y) % cond b (2 ^ 32) (2 ^ 64)) x ≡ x
advance-zero b false x y h = refl
advance-zero true true x y h = omega arith
advance-zero false true x y h = omega arith

advance-more : (b p : Bool) (x y q : ℕ)
    → cond p ((cond p ((x + 1 * y) % cond b (2 ^ 32) (2 ^ 64)) x + q * y) % cond b (2 ^ 32) (2 ^ 64)) (cond p ((x + 1 * y) % cond b (2 ^ 32) (2 ^ 64)) x)
    ≡ cond p ((x + suc q * y) % cond b (2 ^ 32) (2 ^ 64)) x
advance-more b false x y q = refl
advance-more true true x y q = omega arith
advance-more false true x y q = omega arith

pub advanced-zero : (t : TimerParts) → IsTimer t → advanced 0 t ≡ t
advanced-zero t valid = ap (λ (x : ℕ). record t { comparator = x }) (advance-zero (is_32_bit t) (is_periodic t) t.comparator t.period valid.comparator)

advanced-more : (q : ℕ) (t : TimerParts) → advanced q (advanced 1 t) ≡ advanced (suc q) t
advanced-more q t = ap (λ (x : ℕ). record t { comparator = x }) (advance-more (is_32_bit t) (is_periodic t) t.comparator t.period q)

-- up to a match, and on from it
joined : (c d n q : ℕ) (t : TimerParts) → (pulsed_times c d t ≡ advanced 1 t) × (matches_in c t d ≡ 1)
    → (pulsed_times (counter_after c d) n (advanced 1 t) ≡ advanced q (advanced 1 t)) × (matches_in (counter_after c d) (advanced 1 t) n ≡ q)
    → (pulsed_times c (d + n) t ≡ advanced (suc q) t) × (matches_in c t (d + n) ≡ suc q)
joined c d n q t first rest =
    let split : (pulsed_times c (d + n) t ≡ pulsed_times (counter_after c d) n (pulsed_times c d t)) ×
    (matches_in c t (d + n) ≡ matches_in c t d + matches_in (counter_after c d) (pulsed_times c d t) n) = parted c d n t in
    let onward : matches_in (counter_after c d) (pulsed_times c d t) n ≡ q = ap (λ (s : TimerParts). matches_in (counter_after c d) s n) first.0 ∙ rest.1 in (
      split.0 ∙ (ap (pulsed_times (counter_after c d) n) first.0 ∙ (rest.0 ∙ advanced-more q t)),
      omega (arith, split.1, first.1, onward),
    )

-- a period, or a round where there is none, has pulses, and no more than a round ..
spacing-pos : (p : Bool) (period m : ℕ) → 0 < m → 0 < cond (p && ltb 0 period) period m
spacing-pos false period m h = h
spacing-pos true period m h = elim (cases_lt 0 period) [
  | inl some ↦ rw (lt-ltb 0 period some) some
  | inr none ↦ rw (le-ltb 0 period none) h
]

spacing-le : (p : Bool) (period m : ℕ) → period < m → cond (p && ltb 0 period) period m ≤ m
spacing-le false period m h = omega arith
spacing-le true period m h = elim (cases_lt 0 period) [
  | inl some ↦ rw (lt-ltb 0 period some) (omega arith)
  | inr none ↦ rw (le-ltb 0 period none) (omega arith)
]

-- .. and leads from a match to the next
spacing-reaches : (b p : Bool) (x comparator period : ℕ) → x % cond b (2 ^ 32) (2 ^ 64) ≡ comparator → period < cond b (2 ^ 32) (2 ^ 64)
    → (x + cond (p && ltb 0 period) period (cond b (2 ^ 32) (2 ^ 64))) % cond b (2 ^ 32) (2 ^ 64)
    ≡ cond p ((comparator + 1 * period) % cond b (2 ^ 32) (2 ^ 64)) comparator
spacing-reaches true false x comparator period e h = omega arith
spacing-reaches false false x comparator period e h = omega arith
spacing-reaches true true x comparator period e h = elim (cases_lt 0 period) [
  | inl some ↦ rw (lt-ltb 0 period some) (omega arith)
  | inr none ↦ rw (le-ltb 0 period none) (omega arith)
]
spacing-reaches false true x comparator period e h = elim (cases_lt 0 period) [
  | inl some ↦ rw (lt-ltb 0 period some) (omega arith)
  | inr none ↦ rw (le-ltb 0 period none) (omega arith)
]

pub spacing_of-pos : (t : TimerParts) → 0 < spacing_of t
spacing_of-pos t = spacing-pos (is_periodic t) t.period (modulus t) (modulus-pos t)

-- a timer stays one
pub IsTimer-advanced : (q : ℕ) (t : TimerParts) → IsTimer t → IsTimer (advanced q t)
IsTimer-advanced q t valid = record {
  bits = valid.bits;
  low_route = valid.low_route;
  high_route = valid.high_route;
  comparator = below (is_periodic t) (mod_below (t.comparator + q * t.period) (modulus t) (modulus-pos t)) valid.comparator;
  period = valid.period;
}

-- after a match the next is due a spacing later
pub due-next : (c d : ℕ) (t : TimerParts) → IsTimer t → IsDue c t d → IsDue (counter_after c d) (advanced 1 t) (spacing_of t)
due-next c d t valid h = record {
  ahead = spacing_of-pos t;
  within = spacing-le (is_periodic t) t.period (modulus t) valid.period;
  reaches = spacing-reaches (is_32_bit t) (is_periodic t) (counter_after c d) t.comparator t.period (counter_within (is_32_bit t) c d ∙ h.reaches) valid.period;
}

-- rounds of a spacing each, and some pulses more
pub rounds : (c q r : ℕ) (t : TimerParts) → IsTimer t → IsDue c t (spacing_of t) → r < spacing_of t
    → (pulsed_times c (q * spacing_of t + r) t ≡ advanced q t) × (matches_in c t (q * spacing_of t + r) ≡ q)
rounds c zero r t valid h less =
    let e : r ≡ 0 * spacing_of t + r = omega arith in
    let before : (pulsed_times c r t ≡ t) × (matches_in c t r ≡ 0) = early c (spacing_of t) r t h less in
    subst (λ (n : ℕ). (pulsed_times c n t ≡ advanced 0 t) × (matches_in c t n ≡ 0)) e (before.0 ∙ sym (advanced-zero t valid), before.1)
rounds c (suc q) r t valid h less =
    let e : spacing_of t + (q * spacing_of t + r) ≡ suc q * spacing_of t + r = omega arith in
    let first : (pulsed_times c (spacing_of t) t ≡ advanced 1 t) × (matches_in c t (spacing_of t) ≡ 1) = up_to_due c (spacing_of t) t h in
    let rest : (pulsed_times (counter_after c (spacing_of t)) (q * spacing_of t + r) (advanced 1 t) ≡ advanced q (advanced 1 t)) ×
    (matches_in (counter_after c (spacing_of t)) (advanced 1 t) (q * spacing_of t + r) ≡ q) = rounds (counter_after c (spacing_of t)) q r (advanced 1 t)
    (IsTimer-advanced 1 t valid) (due-next c (spacing_of t) t valid h) less in
    subst (λ (n : ℕ). (pulsed_times c n t ≡ advanced (suc q) t) × (matches_in c t n ≡ suc q)) e (joined c (spacing_of t) (q * spacing_of t + r) q t first rest)

-- from the first match on
pub from_due : (c d j : ℕ) (t : TimerParts) → IsTimer t → IsDue c t d
    → (pulsed_times c (d + j) t ≡ advanced (suc (j / spacing_of t)) t) × (matches_in c t (d + j) ≡ suc (j / spacing_of t))
from_due c d j t valid h =
    let whole : j / spacing_of t * spacing_of t + j % spacing_of t ≡ j = div-add-mod' j (spacing_of t) in
    let rest :
    (pulsed_times (counter_after c d) (j / spacing_of t * spacing_of t + j % spacing_of t) (advanced 1 t) ≡ advanced (j / spacing_of t) (advanced 1 t)) ×
    (matches_in (counter_after c d) (advanced 1 t) (j / spacing_of t * spacing_of t + j % spacing_of t) ≡ j / spacing_of t) = rounds (counter_after c d)
    (j / spacing_of t) (j % spacing_of t) (advanced 1 t) (IsTimer-advanced 1 t valid) (due-next c d t valid h)
    (mod_below j (spacing_of t) (spacing_of-pos t)) in
    subst (λ (n : ℕ). (pulsed_times c (d + n) t ≡ advanced (suc (j / spacing_of t)) t) × (matches_in c t (d + n) ≡ suc (j / spacing_of t))) whole
    (joined c d (j / spacing_of t * spacing_of t + j % spacing_of t) (j / spacing_of t) t (up_to_due c d t h) rest)

-- a timer that matches on the first pulse does so again on every pulse a spacing later
pub matches_in-every : (from j : ℕ) (t : TimerParts) → IsTimer t → IsTrue (matches_at (counter_after from 1) t)
    → matches_in from t (1 + j) ≡ 1 + j / spacing_of t
matches_in-every from j t valid h = (from_due from 1 j t valid (due-matches_at from t h)).1 ∙ omega arith

-- the first match of a stretch
pub IsFirst-due : (c d n : ℕ) (t : TimerParts) → IsDue c t d → d ≤ n → IsFirst (matches_in c t) n (Some d)
IsFirst-due c d n t h inside =
    let before : (pulsed_times c (d - 1) t ≡ t) × (matches_in c t (d - 1) ≡ 0) = early c d (d - 1) t h (omega (arith, h.ahead)) in
    let at : (pulsed_times c d t ≡ advanced 1 t) × (matches_in c t d ≡ 1) = up_to_due c d t h in
    (h.ahead, inside, before.1, omega (arith, at.1))

-- the matches of a stretch from the first on
pub matches_in-due : (c d n : ℕ) (t : TimerParts) → IsTimer t → IsDue c t d → d ≤ n → matches_in c t n ≡ 1 + (n - d) / spacing_of t
matches_in-due c d n t valid h inside =
    let e : d + (n - d) ≡ n = omega arith in
    ap (matches_in c t) (sym e) ∙ ((from_due c d (n - d) t valid h).1 ∙ omega arith)

-- the timer at the end of a stretch
pub pulsed_times-advanced : (c d n : ℕ) (t : TimerParts) → IsTimer t → IsDue c t d → pulsed_times c n t ≡ advanced (matches_in c t n) t
pulsed_times-advanced c d n t valid h = elim (cases_lt n d) [
  | inl before ↦
      let none : (pulsed_times c n t ≡ t) × (matches_in c t n ≡ 0) = early c d n t h before in
      none.0 ∙ (sym (advanced-zero t valid) ∙ ap (λ (q : ℕ). advanced q t) (sym none.1))
  | inr inside ↦
      let e : d + (n - d) ≡ n = omega arith in
      let some : (pulsed_times c (d + (n - d)) t ≡ advanced (suc ((n - d) / spacing_of t)) t) ×
      (matches_in c t (d + (n - d)) ≡ suc ((n - d) / spacing_of t)) = from_due c d (n - d) t valid h in
      subst (λ (m : ℕ). pulsed_times c m t ≡ advanced (matches_in c t m) t) e (some.0 ∙ ap (λ (q : ℕ). advanced q t) (sym some.1))
]

-- ---- the pulses before the next match

-- the match is due at the pulse after them ..
due-before : (b : Bool) (c r comparator : ℕ) → comparator < cond b (2 ^ 32) (2 ^ 64)
    → r ≡ (comparator + (cond b (2 ^ 32) (2 ^ 64) - 1 - c % cond b (2 ^ 32) (2 ^ 64))) % cond b (2 ^ 32) (2 ^ 64)
    → (r + 1 ≤ cond b (2 ^ 32) (2 ^ 64)) × ((c + (r + 1)) % cond b (2 ^ 32) (2 ^ 64) ≡ comparator)
due-before true c r comparator h e = (omega arith, omega arith)
due-before false c r comparator h e = (omega arith, omega arith)

pub IsDue-before : (c r : ℕ) (t : TimerParts) → IsTimer t → r ≡ pulses_before c t → IsDue c t (r + 1)
unfolding pulses_before
IsDue-before c r t valid e =
    let due : (r + 1 ≤ modulus t) × ((c + (r + 1)) % modulus t ≡ t.comparator) = due-before (is_32_bit t) c r t.comparator valid.comparator e in
    record { ahead = omega arith; within = due.0; reaches = due.1 }

-- .. so that a stretch has no match exactly where it is no longer than they are
pub matches_in-before : (c r n : ℕ) (t : TimerParts) → IsTimer t → r ≡ pulses_before c t → (n ≤ r) ↔ (matches_in c t n ≡ 0)
matches_in-before c r n t valid e =
    let due : IsDue c t (r + 1) = IsDue-before c r t valid e in (
      λ inside. (early c (r + 1) n t due (omega arith)).1,
      λ none. elim (cases_lt r n) [
        | inl past ↦
            let some : matches_in c t n ≡ 1 + (n - (r + 1)) / spacing_of t = matches_in-due c (r + 1) n t valid due (omega arith) in
            absurd (omega (arith, none, some))
        | inr before ↦ before
      ],
    )

-- each pulse leaves one fewer
fewer : (b : Bool) (c n comparator : ℕ) → n ≤ (comparator + (cond b (2 ^ 32) (2 ^ 64) - 1 - c % cond b (2 ^ 32) (2 ^ 64))) % cond b (2 ^ 32) (2 ^ 64)
    → (comparator + (cond b (2 ^ 32) (2 ^ 64) - 1 - (c + n) % cond b (2 ^ 32) (2 ^ 64))) % cond b (2 ^ 32) (2 ^ 64)
    ≡ (comparator + (cond b (2 ^ 32) (2 ^ 64) - 1 - c % cond b (2 ^ 32) (2 ^ 64))) % cond b (2 ^ 32) (2 ^ 64) - n
fewer true c n comparator h = omega arith
fewer false c n comparator h = omega arith

pub pulses_before-after : (c n : ℕ) (t : TimerParts) → n ≤ pulses_before c t → pulses_before (c + n) t ≡ pulses_before c t - n
unfolding pulses_before
pulses_before-after c n t h = fewer (is_32_bit t) c n t.comparator h
