-- The pulses on which a timer matches: the first, and every spacing later.
use Rattle.std.proofs.Common.{◌≡◌, ℕ, suc, ◌+◌, ◌-◌, ◌*◌, ◌/◌, ◌%◌, ◌<◌, ◌≤◌, Bool, true, false, cond, ◌&&◌, ltb, eqb, Some, refl, ap, sym, ◌∙◌, inl, inr}
use Rattle.std.proofs.Common.{arith}
use Rattle.std.proofs.Math.Bool.{and-true}
use Rattle.std.proofs.Math.Nat.{div-mul-le_self}
use Rattle.std.proofs.lemmas.Bool.{cases_lt, lt-ltb, le-ltb, lt-leb, le-leb, eq-eqb, ne_eqb}
use Rattle.std.proofs.lemmas.Nat.{mod_below, div-add-mod', div-mul-add, mod-mul-add, le-div}
use Rattle.hpet_comparator.specs.Counter.{counter_after}
use Rattle.hpet_comparator.specs.declared.parts.TimerParts.{TimerParts}
use Rattle.hpet_comparator.specs.Parts.{IsTimer}
use Rattle.hpet_comparator.specs.Stretch.{matches_at, pulsed_times, matches_in, spacing_of, falls_on}
use Rattle.hpet_comparator.specs.private.Rounds.{IsDue}
use Rattle.hpet_comparator.proofs.Rounds.{matches_at-early, early, up_to_due, from_due, spacing_of-pos}

-- a test that decides whether a count goes up
test-step : (b : Bool) (m x a y : ℕ) → cond b (suc m) m ≡ x → m ≡ suc a → x ≡ suc y → b ≡ ltb a y
test-step true m x a y e f g = sym (lt-ltb a y (omega arith))
test-step false m x a y e f g = sym (le-ltb a y (omega arith))

test-first : (b : Bool) (m : ℕ) → cond b (suc m) m ≡ 1 → m ≡ 0 → b ≡ true
test-first true m e f = refl
test-first false m e f = absurd (omega (arith, e, f))

-- a quotient goes up where the next number is a multiple
div-step : (s j : ℕ) → 0 < s → ltb (j / s) (suc j / s) ≡ eqb (suc j % s) 0
div-step s j some =
    let whole : j / s * s + j % s ≡ j = div-add-mod' j s in
    let small : j % s < s = mod_below j s some in
    elim (cases_lt (suc (j % s)) s) [
      | inl within ↦
          let e : suc j ≡ j / s * s + suc (j % s) = omega arith in
          let quotient : suc j / s ≡ j / s = ap (λ (x : ℕ). x / s) e ∙ div-mul-add (j / s) s (suc (j % s)) within in
          let rest : suc j % s ≡ suc (j % s) = ap (λ (x : ℕ). x % s) e ∙ mod-mul-add (j / s) s (suc (j % s)) within in
          le-ltb (j / s) (suc j / s) (omega (arith, quotient)) ∙ sym (ne_eqb (suc j % s) 0 (λ zero_rest. omega (arith, rest, zero_rest)))
      | inr full ↦
          let e : suc j ≡ suc (j / s) * s + 0 = omega arith in
          let quotient : suc j / s ≡ suc (j / s) = ap (λ (x : ℕ). x / s) e ∙ div-mul-add (suc (j / s)) s 0 some in
          let rest : suc j % s ≡ 0 = ap (λ (x : ℕ). x % s) e ∙ mod-mul-add (suc (j / s)) s 0 some in
          lt-ltb (j / s) (suc j / s) (omega (arith, quotient)) ∙ sym (eq-eqb (suc j % s) 0 rest)
    ]

div-mono : (s a b : ℕ) → 0 < s → a ≤ b → a / s ≤ b / s
div-mono s a b some h = le-div (a / s) b s some (omega (arith, div-mul-le_self a s))

-- before the first none falls
pub falls_on-before : (d count every m : ℕ) → m < d → falls_on (Some d) count every m ≡ false
falls_on-before d count every m h = ap (λ (b : Bool). b && (eqb ((m - d) % every) 0 && ltb ((m - d) / every) count)) (lt-leb d m h)

-- j pulses after the first
pub falls_on-after : (d count every j : ℕ) → falls_on (Some d) count every (d + j) ≡ (eqb (j % every) 0 && ltb (j / every) count)
falls_on-after d count every j =
    let e : d + j - d ≡ j = omega arith in
    ap (λ (b : Bool). b && (eqb ((d + j - d) % every) 0 && ltb ((d + j - d) / every) count)) (le-leb d (d + j) (omega arith))
    ∙ ap (λ (x : ℕ). eqb (x % every) 0 && ltb (x / every) count) e

-- up to the end of a stretch all that fall are counted
within-stretch : (d n every j : ℕ) → 0 < every → d + j ≤ n → falls_on (Some d) (1 + (n - d) / every) every (d + j) ≡ eqb (j % every) 0
within-stretch d n every j some inside =
    falls_on-after d (1 + (n - d) / every) every j
    ∙ (ap (λ (b : Bool). eqb (j % every) 0 && b) (lt-ltb (j / every) (1 + (n - d) / every) (omega (arith, div-mono every j (n - d) some (omega arith))))
    ∙ and-true (eqb (j % every) 0))

-- no match before the one that is due
pub matches_at-before : (c d i : ℕ) (t : TimerParts) → IsDue c t d → suc i < d → matches_at (counter_after c (suc i)) (pulsed_times c i t) ≡ false
matches_at-before c d i t h less =
    ap (matches_at (counter_after c (suc i))) (early c d i t h (omega arith)).0 ∙ matches_at-early c d (suc i) t h (omega arith) less

-- the match that is due
first-match : (c i : ℕ) (t : TimerParts) → IsDue c t (suc i) → matches_at (counter_after c (suc i)) (pulsed_times c i t) ≡ true
first-match c i t h =
    test-first (matches_at (counter_after c (suc i)) (pulsed_times c i t)) (matches_in c t i) (up_to_due c (suc i) t h).1
    (early c (suc i) i t h (omega arith)).1

-- those after it
later-match : (c d j : ℕ) (t : TimerParts) → IsTimer t → IsDue c t d
    → matches_at (counter_after c (suc (d + j))) (pulsed_times c (d + j) t) ≡ eqb (suc j % spacing_of t) 0
later-match c d j t valid h =
    let e : d + suc j ≡ suc (d + j) = omega arith in
    let next : matches_in c t (suc (d + j)) ≡ suc (suc j / spacing_of t) = ap (matches_in c t) (sym e) ∙ (from_due c d (suc j) t valid h).1 in
    test-step (matches_at (counter_after c (suc (d + j))) (pulsed_times c (d + j) t)) (matches_in c t (d + j)) (matches_in c t (suc (d + j)))
    (j / spacing_of t) (suc j / spacing_of t) refl (from_due c d j t valid h).1 next
    ∙ div-step (spacing_of t) j (spacing_of-pos t)

-- the matches of a stretch fall at the first and every spacing later
pub matches_at-falls : (c d n i : ℕ) (t : TimerParts) → IsTimer t → IsDue c t d → i < n
    → matches_at (counter_after c (suc i)) (pulsed_times c i t) ≡ falls_on (Some d) (1 + (n - d) / spacing_of t) (spacing_of t) (suc i)
matches_at-falls c d n i t valid h inside = elim (cases_lt (suc i) d) [
  | inl less ↦ matches_at-before c d i t h less ∙ sym (falls_on-before d (1 + (n - d) / spacing_of t) (spacing_of t) (suc i) less)
  | inr past ↦ elim (cases_lt d (suc i)) [
    | inl behind ↦
        let e : d + (i - d) ≡ i = omega arith in
        let f : d + suc (i - d) ≡ suc i = omega arith in
        ap (λ (x : ℕ). matches_at (counter_after c (suc x)) (pulsed_times c x t)) (sym e)
        ∙ (later-match c d (i - d) t valid h
        ∙ (sym (within-stretch d n (spacing_of t) (suc (i - d)) (spacing_of-pos t) (omega arith))
        ∙ ap (falls_on (Some d) (1 + (n - d) / spacing_of t) (spacing_of t)) f))
    | inr here ↦
        let e : d ≡ suc i = omega arith in
        let f : d + 0 ≡ suc i = omega arith in
        let zeros : 0 ≡ 0 * spacing_of t + 0 = omega arith in
        let none : 0 % spacing_of t ≡ 0 = ap (λ (x : ℕ). x % spacing_of t) zeros ∙ mod-mul-add 0 (spacing_of t) 0 (spacing_of-pos t) in
        first-match c i t (rw (← e) h)
        ∙ (sym (eq-eqb (0 % spacing_of t) 0 none)
        ∙ (sym (within-stretch d n (spacing_of t) 0 (spacing_of-pos t) (omega arith))
        ∙ ap (falls_on (Some d) (1 + (n - d) / spacing_of t) (spacing_of t)) f))
  ]
]
