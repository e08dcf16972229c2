-- Many pulses: the fields after them, and the one rise of line 9.
use Rattle.std.proofs.Common.{◌≡◌, ℕ, zero, suc, ◌+◌, ◌-◌, ◌%◌, ◌^◌, ◌<◌, ◌≤◌, Bool, true, false, cond, not, ◌||◌, ◌&&◌, eqb, leb}
use Rattle.std.proofs.Common.{Some, None, ◌⊎◌, inl, inr, refl, ap, sym, subst, ◌∙◌, arith, IsTrue}
use Rattle.std.proofs.lemmas.Bool.{cases_lt, cases_eq, eq-eqb, ne_eqb, le-leb, lt-leb, leb-true, true≢false, and_parts}
use Rattle.std.proofs.Math.Bool.{and-false}
use Rattle.clk_units.specs.Events.{IsFirst}
use Rattle.pm_timer.specs.declared.parts.PmParts.{PmParts}
use Rattle.pm_timer.specs.Parts.{is_pm_bits, IsPmTimer}
use Rattle.pm_timer.specs.Stretch.{pm_pulsed, pm_pulsed_times, pm_rises_in, pm_rises_next, line_9_up, first_within, top_changes}
use Rattle.pm_timer.specs.private.Stretch.{half_of, to_change, pm_stretched, rise_of}
use Rattle.pm_timer.proofs.Bits.{by_bits, count-suc, top_bit-suc}

-- without a timer pulses change nothing
pub pm_pulsed_times-none : (n : ℕ) (p : PmParts) → p.bits ≡ 0 → pm_pulsed_times n p ≡ p
unfolding pm_pulsed
pm_pulsed_times-none zero p none = refl
pm_pulsed_times-none (suc n) p none = rw (pm_pulsed_times-none n p none, none) refl

-- one pulse of a timer
pm_pulsed-is : (p : PmParts) → 0 < p.bits → pm_pulsed p ≡ record p { count = (p.count + 1) % 2 ^ p.bits; status = p.status || top_changes p }
unfolding pm_pulsed
pm_pulsed-is p there = rw (ne_eqb p.bits 0 (omega arith)) refl

-- the pulses up to a change, and one more
change-suc : (b : ℕ) → IsTrue (is_pm_bits b) → 0 < b → (c n : ℕ)
    → (leb (2 ^ (b - 1) - c % 2 ^ (b - 1)) n || eqb (((c + n) % 2 ^ b + 1) % 2 ^ (b - 1)) 0) ≡ leb (2 ^ (b - 1) - c % 2 ^ (b - 1)) (suc n)
change-suc b h there = by_bits (λ b. (c n : ℕ)
    → (leb (2 ^ (b - 1) - c % 2 ^ (b - 1)) n || eqb (((c + n) % 2 ^ b + 1) % 2 ^ (b - 1)) 0) ≡ leb (2 ^ (b - 1) - c % 2 ^ (b - 1)) (suc n)) b h there
    (λ c n. step (2 ^ 23 - c % 2 ^ 23) n (((c + n) % 2 ^ 24 + 1) % 2 ^ 23) (λ before none. omega arith) (λ last. omega arith))
    (λ c n. step (2 ^ 31 - c % 2 ^ 31) n (((c + n) % 2 ^ 32 + 1) % 2 ^ 31) (λ before none. omega arith) (λ last. omega arith))
  where
    step : (d n x : ℕ) → (n < d → x ≡ 0 → d ≡ suc n) → (d ≡ suc n → x ≡ 0) → (leb d n || eqb x 0) ≡ leb d (suc n)
    step d n x only last = elim (cases_lt n d) [
      | inr past ↦ rw (le-leb d n past, le-leb d (suc n) (omega arith)) refl
      | inl before ↦ elim (cases_eq d (suc n)) [
        | inl now ↦ rw (lt-leb d n before, le-leb d (suc n) (omega arith), eq-eqb x 0 (last now)) refl
        | inr later ↦ rw (lt-leb d n before, lt-leb d (suc n) (omega arith), ne_eqb x 0 (λ none. later (only before none))) refl
      ]
    ]

-- the next change is to come
pub to_change-some : (p : PmParts) → IsPmTimer p → 0 < p.bits → 0 < to_change p
to_change-some p h there = by_bits (λ b. (c : ℕ) → 0 < 2 ^ (b - 1) - c % 2 ^ (b - 1)) p.bits h.bits there (λ c. omega arith) (λ c. omega arith) p.count

-- the fields after n pulses of a timer
abbrev after : ℕ → PmParts → PmParts
after n p = record p { count = (p.count + n) % 2 ^ p.bits; status = p.status || leb (to_change p) n }

after-zero : (p : PmParts) → IsPmTimer p → 0 < p.bits → after 0 p ≡ p
after-zero p h there =
    let whole : (p.count + 0) % 2 ^ p.bits ≡ p.count = by_bits (λ b. (c : ℕ) → c < 2 ^ b → (c + 0) % 2 ^ b ≡ c) p.bits h.bits there
    (λ c small. omega arith) (λ c small. omega arith) p.count h.count in
    rw (whole, lt-leb (to_change p) 0 (to_change-some p h there), or-false p.status) refl
  where
    or-false : (b : Bool) → (b || false) ≡ b
    or-false true = refl
    or-false false = refl

after-suc : (n : ℕ) (p : PmParts) → IsPmTimer p → 0 < p.bits → pm_pulsed (after n p) ≡ after (suc n) p
after-suc n p h there =
    let small : (p.count + n) % 2 ^ p.bits < 2 ^ p.bits = by_bits (λ b. (x : ℕ) → x % 2 ^ b < 2 ^ b) p.bits h.bits there (λ x. omega arith)
    (λ x. omega arith) (p.count + n) in
    pm_pulsed-is (after n p) there
    ∙ rw (top_bit-suc p.bits h.bits there ((p.count + n) % 2 ^ p.bits) small, count-suc p.bits h.bits there p.count n)
    (ap (λ (b : Bool). record p { count = (p.count + suc n) % 2 ^ p.bits; status = b })
    (or-assoc p.status (leb (to_change p) n) (eqb (((p.count + n) % 2 ^ p.bits + 1) % half_of p) 0)
    ∙ ap (λ (b : Bool). p.status || b) (change-suc p.bits h.bits there p.count n)))
  where
    or-assoc : (a b c : Bool) → (a || b || c) ≡ (a || (b || c))
    or-assoc true b c = refl
    or-assoc false b c = refl

after-is : (n : ℕ) (p : PmParts) → IsPmTimer p → 0 < p.bits → pm_pulsed_times n p ≡ after n p
after-is zero p h there = sym (after-zero p h there)
after-is (suc n) p h there = ap pm_pulsed (after-is n p h there) ∙ after-suc n p h there

-- n pulses at once are the fields that the bodies work out
pub pm_pulsed_times-is : (n : ℕ) (p : PmParts) → IsPmTimer p → pm_pulsed_times n p ≡ pm_stretched n p
pm_pulsed_times-is n p h = elim (cases_eq p.bits 0) [
  | inl none ↦ rw (eq-eqb p.bits 0 none) (pm_pulsed_times-none n p none)
  | inr some ↦ rw (ne_eqb p.bits 0 some) (after-is n p h (omega arith))
]

-- pulses keep the conditions
pub IsPmTimer-pm_pulsed_times : (n : ℕ) (p : PmParts) → IsPmTimer p → IsPmTimer (pm_pulsed_times n p)
IsPmTimer-pm_pulsed_times n p h = elim (cases_eq p.bits 0) [
  | inl none ↦ subst IsPmTimer (sym (pm_pulsed_times-none n p none)) h
  | inr some ↦ subst IsPmTimer (sym (after-is n p h (omega arith))) (record {
    bits = h.bits;
    count = by_bits (λ b. (x : ℕ) → x % 2 ^ b < 2 ^ b) p.bits h.bits (omega arith) (λ x. omega arith) (λ x. omega arith) (p.count + n);
    no_status = λ none. absurd (some none);
    no_enable = λ none. absurd (some none);
  })
]

-- line 9 after n pulses
line_9_up-pm_pulsed_times : (n : ℕ) (p : PmParts) → IsPmTimer p → line_9_up (pm_pulsed_times n p) ≡ ((p.status || leb (to_change p) n) && p.enable)
line_9_up-pm_pulsed_times n p h = elim (cases_eq p.bits 0) [
  | inl none ↦ rw (pm_pulsed_times-none n p none, h.no_enable none, and-false p.status, and-false (p.status || leb (to_change p) n)) refl
  | inr some ↦ ap line_9_up (after-is n p h (omega arith))
]

-- line 9 rises once where STATUS is 0 and ENABLE is 1, at the next change, and else never
pm_rises_in-is : (n : ℕ) (p : PmParts) → IsPmTimer p → pm_rises_in p n ≡ cond (p.enable && not p.status && leb (to_change p) n) 1 0
unfolding pm_rises_next
pm_rises_in-is zero p h = elim (cases_eq p.bits 0) [
  | inl none ↦ rw (h.no_enable none) refl
  | inr some ↦ rw (lt-leb (to_change p) 0 (to_change-some p h (omega arith)), and-false (p.enable && not p.status)) refl
]
pm_rises_in-is (suc n) p h =
    rw (pm_rises_in-is n p h, line_9_up-pm_pulsed_times n p h, line_9_up-pm_pulsed_times (suc n) p h)
    (step p.enable p.status (leb (to_change p) n) (leb (to_change p) (suc n))
    (λ past. le-leb (to_change p) (suc n) (omega (arith, leb-true (to_change p) n past))))
  where
    step : (e s a b : Bool) → (a ≡ true → b ≡ true)
        → cond (not ((s || a) && e) && ((s || b) && e)) (suc (cond (e && not s && a) 1 0)) (cond (e && not s && a) 1 0) ≡ cond (e && not s && b) 1 0
    step false true a b on = refl
    step false false a b on = rw (and-false a, and-false b) refl
    step true true a b on = refl
    step true false true b on = rw (on refl) refl
    step true false false true on = refl
    step true false false false on = refl

-- so the first rise of n pulses is at that change, where it comes by then
pub IsFirst-rise : (n : ℕ) (p : PmParts) → IsPmTimer p → IsFirst (pm_rises_in p) n (first_within n (rise_of p))
IsFirst-rise n p h = by_level (p.enable && not p.status) refl
  where
    counted : (m : ℕ) (b : Bool) → (p.enable && not p.status) ≡ b → pm_rises_in p m ≡ cond (b && leb (to_change p) m) 1 0
    counted m b e = pm_rises_in-is m p h ∙ ap (λ (b : Bool). cond (b && leb (to_change p) m) 1 0) e

    by_level : (b : Bool) → (p.enable && not p.status) ≡ b → IsFirst (pm_rises_in p) n (first_within n (cond b (Some (to_change p)) None))
    by_level false e = counted n false e
    by_level true e = elim (cases_lt n (to_change p)) [
      | inl before ↦ rw (lt-leb (to_change p) n before) (counted n true e ∙ ap (λ (b : Bool). cond b 1 0) (lt-leb (to_change p) n before))
      | inr past ↦ rw (le-leb (to_change p) n past) (
        some e,
        past,
        counted (to_change p - 1) true e ∙ ap (λ (b : Bool). cond b 1 0) (lt-leb (to_change p) (to_change p - 1) (omega (arith, some e))),
        omega (arith, counted (to_change p) true e ∙ ap (λ (b : Bool). cond b 1 0) (le-leb (to_change p) (to_change p) (omega arith))),
      )
    ]
      where
        some : (p.enable && not p.status) ≡ true → 0 < to_change p
        some e = to_change-some p h (there (cases_eq p.bits 0))
          where
            there : (p.bits ≡ 0) ⊎ (p.bits ≡ 0 → ⊥) → 0 < p.bits
            there (inl none) = absurd (true≢false (sym (and_parts p.enable (not p.status) e).0 ∙ h.no_enable none))
            there (inr timer) = omega arith

-- it rises at most once
pub pm_rises_in-once : (n : ℕ) (p : PmParts) → IsPmTimer p → pm_rises_in p n ≤ 1
pm_rises_in-once n p h = once (p.enable && not p.status && leb (to_change p) n) (pm_rises_in-is n p h)
  where
    once : (b : Bool) → pm_rises_in p n ≡ cond b 1 0 → pm_rises_in p n ≤ 1
    once true e = omega (arith, e)
    once false e = omega (arith, e)
