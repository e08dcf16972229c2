-- Pulses that are planned: the main counter alone changes.
use Rattle.std.proofs.Common.{◌≡◌, ℕ, zero, suc, ◌+◌, ◌-◌, ◌^◌, ◌<◌, ◌≤◌, min, Bool, true, false, cond, ◌&&◌, ltb, List, [], ◌∷◌, map, get_or, length}
use Rattle.std.proofs.Common.{refl, ap, sym, subst, ◌∙◌, inl, inr, arith}
use Rattle.std.proofs.lemmas.Bool.{cases_eq, cases_lt, le-ltb}
use Rattle.hpet_comparator.specs.Counter.{counter_after}
use Rattle.hpet_comparator.specs.declared.parts.TimerParts.{TimerParts}
use Rattle.hpet_comparator.specs.Parts.{is_level}
use Rattle.hpet_comparator.specs.Stretch.{pulsed_times, matches_in, pulses_before}
use Rattle.hpet_comparator.proofs.Steps.{pulsed_times-quiet}
use Rattle.hpet_comparator.proofs.Rounds.{matches_in-before, pulses_before-after}
use Rattle.hpet_registers.specs.declared.parts.HpetParts.{HpetParts}
use Rattle.hpet_registers.specs.Parts.{IsHpet, no_timer, timer_at, is_running}
use Rattle.hpet_registers.specs.Stretch.{hpet_pulsed_times, matches_of, matches_next}
use Rattle.hpet_registers.specs.private.Plan.{forever, quiet_below, plan_of}
use Rattle.hpet_registers.proofs.Bits.{with_bits-none}
use Rattle.hpet_registers.proofs.Conditions.{IsTimer-at, pulsed_times-no_timer}
use Rattle.hpet_registers.proofs.Product.{kept-hpet_pulsed_times, same_fields, counter-hpet_pulsed_times, status-hpet_pulsed_times, timer-hpet_pulsed_times}
use Rattle.hpet_registers.proofs.Product.{matches_of-absent, matches_of-running, matches_of-standing}
use Rattle.hpet_registers.proofs.After.{timer_at-absent}

-- the plan of a counter that runs, and of one that stands
pub plan_of-running : (h : HpetParts) → is_running h ≡ true → plan_of h ≡ quiet_below h.timers h
unfolding plan_of
plan_of-running h runs = ap (λ (b : Bool). cond b (quiet_below h.timers h) forever) runs

pub plan_of-standing : (h : HpetParts) → is_running h ≡ false → plan_of h ≡ forever
unfolding plan_of
plan_of-standing h stands = ap (λ (b : Bool). cond b (quiet_below h.timers h) forever) stands

-- one timer more
pub quiet_below-more : (k : ℕ) (h : HpetParts) → min (quiet_below k h) (pulses_before h.counter (timer_at k h)) ≡ quiet_below (k + 1) h
unfolding quiet_below
quiet_below-more k h = let e : suc k ≡ k + 1 = omega arith in ap (λ (j : ℕ). quiet_below j h) e

-- it ends with the main counter's greatest value ..
quiet_below-end : (m : ℕ) (h : HpetParts) → quiet_below m h ≤ 2 ^ 64 - 1 - h.counter
unfolding quiet_below
quiet_below-end zero h = omega arith
quiet_below-end (suc m) h = omega (arith, quiet_below-end m h)

-- .. and before each timer's next match
quiet_below-least : (k m : ℕ) (h : HpetParts) → k < m → quiet_below m h ≤ pulses_before h.counter (timer_at k h)
unfolding quiet_below
quiet_below-least k zero h less = absurd (omega (arith, less))
quiet_below-least k (suc m) h less = elim (cases_eq k m) [
  | inl same ↦ subst (λ (j : ℕ). quiet_below (suc m) h ≤ pulses_before h.counter (timer_at j h)) (sym same) (omega arith)
  | inr other ↦ omega (arith, quiet_below-least k m h (below k m less other))
]
  where
    below : (k m : ℕ) → k < suc m → (k ≡ m → ⊥) → k < m
    below k m h apart = omega arith

-- each pulse leaves one fewer
quiet_below-after : (m n : ℕ) (h : HpetParts) → n ≤ quiet_below m h
    → quiet_below m (record h { counter = h.counter + n }) ≡ quiet_below m h - n
unfolding quiet_below
quiet_below-after zero n h within = omega arith
quiet_below-after (suc m) n h within =
    let rest : quiet_below m (record h { counter = h.counter + n }) ≡ quiet_below m h - n = quiet_below-after m n h (omega (arith, within)) in
    let last : pulses_before (h.counter + n) (timer_at m h) ≡ pulses_before h.counter (timer_at m h) - n =
    pulses_before-after h.counter n (timer_at m h) (omega (arith, within)) in
    omega (arith, rest, last)

-- a pulse before which none matched, and which leaves it so, is no match
pub matches_next-none : (k i n : ℕ) (h : HpetParts) → matches_of k h n ≡ 0 → i < n → matches_next k (hpet_pulsed_times i h) ≡ false
matches_next-none k i zero h none less = absurd (omega (arith, less))
matches_next-none k i (suc n) h none less =
    let last : (matches_next k (hpet_pulsed_times n h) ≡ false) × (matches_of k h n ≡ 0) = split (matches_next k (hpet_pulsed_times n h)) (matches_of k h n) none in
    elim (cases_eq i n) [
      | inl same ↦ ap (λ (j : ℕ). matches_next k (hpet_pulsed_times j h)) same ∙ last.0
      | inr other ↦ matches_next-none k i n h last.1 (below i n less other)
    ]
  where
    split : (b : Bool) (m : ℕ) → cond b (suc m) m ≡ 0 → (b ≡ false) × (m ≡ 0)
    split true m e = absurd (omega (arith, e))
    split false m e = (refl, e)

    below : (i n : ℕ) → i < suc n → (i ≡ n → ⊥) → i < n
    below i n h apart = omega arith

module _ (n : ℕ) (h : HpetParts) (valid : IsHpet h) (fits : h.counter < 2 ^ 64) where
  module _ (runs : is_running h ≡ true) (within : n ≤ quiet_below h.timers h) where
    none_in : (k : ℕ) → k < h.timers → matches_in h.counter (timer_at k h) n ≡ 0
    none_in k inside =
        (matches_in-before h.counter (pulses_before h.counter (timer_at k h)) n (timer_at k h) (IsTimer-at k h valid inside) refl).0
        (omega (arith, within, quiet_below-least k h.timers h inside))

    none_of : (k : ℕ) → matches_of k h n ≡ 0
    none_of k = elim (cases_lt k h.timers) [
      | inl inside ↦ matches_of-running k n h runs fits inside ∙ none_in k inside
      | inr past ↦ matches_of-absent k n h past
    ]

    -- the timers stay, and with them the status
    timer_stays : (k : ℕ) → k < 8 → pulsed_times h.counter n (timer_at k h) ≡ timer_at k h
    timer_stays k small = elim (cases_lt k h.timers) [
      | inl inside ↦ pulsed_times-quiet h.counter n (timer_at k h) (none_in k inside)
      | inr past ↦ subst (λ (t : TimerParts). pulsed_times h.counter n t ≡ t) (sym (timer_at-absent k h valid small past)) (pulsed_times-no_timer h.counter n)
    ]

    no_bit : (k : ℕ) → (ltb 0 (matches_of k h n) && is_level (timer_at k h)) ≡ false
    no_bit k = ap (λ (m : ℕ). ltb 0 m && is_level (timer_at k h)) (none_of k) ∙ ap (λ (b : Bool). b && is_level (timer_at k h)) (le-ltb 0 0 (omega arith))

    no_wrap : counter_after h.counter n ≡ h.counter + n
    no_wrap = omega (arith, fits, within, quiet_below-end h.timers h)

    counter_alone : length h.timer ≡ 8 → record h { counter = h.counter + n } ≡ hpet_pulsed_times n h
    counter_alone eight = sym (
        kept-hpet_pulsed_times n h
        ∙ same_fields h (counter-hpet_pulsed_times n h runs fits ∙ no_wrap)
        (status-hpet_pulsed_times n h ∙ with_bits-none (λ k. ltb 0 (matches_of k h n) && is_level (timer_at k h)) 8 h.status no_bit)
        (timer-hpet_pulsed_times n h runs fits ∙ all_stay h.timer (λ k less. timer_stays k (omega (arith, less, eight)))))
      where
        all_stay : (ts : List TimerParts) → ((k : ℕ) → k < length ts → pulsed_times h.counter n (get_or ts k no_timer) ≡ get_or ts k no_timer)
            → map (pulsed_times h.counter n) ts ≡ ts
        all_stay [] stays = refl
        all_stay (t ∷ ts) stays =
            ap (λ (x : TimerParts). x ∷ map (pulsed_times h.counter n) ts) (stays 0 (omega arith))
            ∙ ap (λ (us : List TimerParts). t ∷ us) (all_stay ts (λ k less. stays (suc k) (omega (arith, less))))

  module _ (quiet : ℕ) (planned : quiet ≡ plan_of h) (within : n ≤ quiet) where
    running_within : is_running h ≡ true → n ≤ quiet_below h.timers h
    running_within runs = omega (arith, within, planned, plan_of-running h runs)

    -- they bring no match ..
    pub matches_of-planned : (k : ℕ) → matches_of k h n ≡ 0
    matches_of-planned k = by_test (is_running h) refl
      where
        by_test : (b : Bool) → is_running h ≡ b → matches_of k h n ≡ 0
        by_test true runs = none_of runs (running_within runs) k
        by_test false stands = matches_of-standing k n h stands

    -- .. take a counter that runs on, and leave the rest of the plan
    pub room-planned : is_running h ≡ true → h.counter + n < 2 ^ 64
    room-planned runs = omega (arith, fits, running_within runs, quiet_below-end h.timers h)

    pub pulsed-planned : is_running h ≡ true → length h.timer ≡ 8 → record h { counter = h.counter + n } ≡ hpet_pulsed_times n h
    pulsed-planned runs eight = counter_alone runs (running_within runs) eight

    pub plan_of-planned : is_running h ≡ true → quiet - n ≡ plan_of (record h { counter = h.counter + n })
    plan_of-planned runs =
        ap (λ (q : ℕ). q - n) (planned ∙ plan_of-running h runs)
        ∙ sym (plan_of-running (record h { counter = h.counter + n }) runs ∙ quiet_below-after h.timers n h (running_within runs))

-- pulses that aren't all planned find a counter that runs
pub runs-beyond : (n quiet : ℕ) (h : HpetParts) → n < 2 ^ 64 → quiet ≡ plan_of h → quiet < n → is_running h ≡ true
runs-beyond n quiet h small planned past = by_test (is_running h) refl
  where
    by_test : (b : Bool) → is_running h ≡ b → b ≡ true
    by_test true _ = refl
    by_test false stands = absurd (omega (arith, small, past, planned, plan_of-standing h stands))
