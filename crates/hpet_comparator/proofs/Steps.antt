-- Single pulses of a timer, one after the other.
use Rattle.std.proofs.Common.{◌≡◌, ℕ, zero, suc, ◌+◌, ◌%◌, ◌^◌, Bool, true, false, cond, ◌&&◌, eqb, refl, ap, sym, subst, ◌∙◌, arith}
use Rattle.clk_units.specs.Events.{CountsUp}
use Rattle.clk_units.proofs.Events.{CountsUp-by_test}
use Rattle.hpet_comparator.specs.Counter.{counter_after}
use Rattle.hpet_comparator.specs.declared.parts.TimerParts.{TimerParts}
use Rattle.clk_units.specs.Bits.{bit}
use Rattle.hpet_comparator.specs.Parts.{IsTimer, is_32_bit, is_periodic, modulus}
use Rattle.hpet_comparator.specs.Stretch.{matches_at, pulsed, pulsed_times, matches_in}
use Rattle.hpet_comparator.proofs.Writes.{IsTimer-pulsed}

-- one pulse more
pub matches_in-suc : (from : ℕ) (t : TimerParts) (n : ℕ)
    → matches_in from t (suc n) ≡ cond (matches_at (counter_after from (suc n)) (pulsed_times from n t)) (suc (matches_in from t n)) (matches_in from t n)
matches_in-suc from t n = refl

-- matches count up
pub CountsUp-matches_in : (from : ℕ) (t : TimerParts) → CountsUp (matches_in from t)
CountsUp-matches_in from t = CountsUp-by_test (matches_in from t) (λ n. matches_at (counter_after from (suc n)) (pulsed_times from n t)) refl
    (matches_in-suc from t)

-- pulses without a match leave the timer
pulsed-quiet : (c : ℕ) (t : TimerParts) → matches_at c t ≡ false → pulsed c t ≡ t
unfolding pulsed
pulsed-quiet c t h = ap (λ (b : Bool). record t { comparator = cond (b && is_periodic t) ((t.comparator + t.period) % modulus t) t.comparator }) h

pub pulsed_times-quiet : (from n : ℕ) (t : TimerParts) → matches_in from t n ≡ 0 → pulsed_times from n t ≡ t
pulsed_times-quiet from zero t none = refl
pulsed_times-quiet from (suc n) t none =
    let last : (matches_at (counter_after from (suc n)) (pulsed_times from n t) ≡ false) × (matches_in from t n ≡ 0) = split
    (matches_at (counter_after from (suc n)) (pulsed_times from n t)) (matches_in from t n) none in
    pulsed-quiet (counter_after from (suc n)) (pulsed_times from n t) last.0 ∙ pulsed_times-quiet from n t last.1
  where
    split : (b : Bool) (m : ℕ) → cond b (suc m) m ≡ 0 → (b ≡ false) × (m ≡ 0)
    split true m e = absurd (omega (arith, e))
    split false m e = (refl, e)

-- pulses keep a timer's conditions
pub IsTimer-pulsed_times : (from n : ℕ) (t : TimerParts) → IsTimer t → IsTimer (pulsed_times from n t)
IsTimer-pulsed_times from zero t h = h
IsTimer-pulsed_times from (suc n) t h = IsTimer-pulsed (counter_after from (suc n)) (pulsed_times from n t) (IsTimer-pulsed_times from n t h)

-- a pulse leaves the configuration and the period
pub config-pulsed : (c : ℕ) (t : TimerParts) → (pulsed c t).config ≡ t.config
unfolding pulsed
config-pulsed c t = refl

-- pulses leave the configuration
pub config-pulsed_times : (from n : ℕ) (t : TimerParts) → (pulsed_times from n t).config ≡ t.config
unfolding pulsed
config-pulsed_times from zero t = refl
config-pulsed_times from (suc n) t = config-pulsed_times from n t

-- in 32-bit mode the low half of the main counter decides alone
matches_at-low : (from k : ℕ) (t : TimerParts) → is_32_bit t ≡ true → matches_at (counter_after from k) t ≡ matches_at (counter_after (from % 2 ^ 32) k) t
unfolding matches_at
matches_at-low from k t narrow =
    let m : modulus t ≡ 2 ^ 32 = ap (λ (b : Bool). cond b (2 ^ 32) (2 ^ 64)) narrow in
    ap (λ (x : ℕ). eqb x t.comparator) (subst (λ (m : ℕ). counter_after from k % m ≡ counter_after (from % 2 ^ 32) k % m) (sym m) (omega arith))

pulsed-low : (from k : ℕ) (t : TimerParts) → is_32_bit t ≡ true → pulsed (counter_after from k) t ≡ pulsed (counter_after (from % 2 ^ 32) k) t
unfolding pulsed
pulsed-low from k t narrow = ap (λ (b : Bool). record t { comparator = cond (b && is_periodic t) ((t.comparator + t.period) % modulus t) t.comparator })
    (matches_at-low from k t narrow)

narrow-pulsed_times : (from n : ℕ) (t : TimerParts) → is_32_bit t ≡ true → is_32_bit (pulsed_times from n t) ≡ true
narrow-pulsed_times from n t narrow = ap (λ (c : ℕ). bit 8 c) (config-pulsed_times from n t) ∙ narrow

pub pulsed_times-low : (from n : ℕ) (t : TimerParts) → is_32_bit t ≡ true → pulsed_times from n t ≡ pulsed_times (from % 2 ^ 32) n t
pulsed_times-low from zero t narrow = refl
pulsed_times-low from (suc n) t narrow =
    pulsed-low from (suc n) (pulsed_times from n t) (narrow-pulsed_times from n t narrow)
    ∙ ap (pulsed (counter_after (from % 2 ^ 32) (suc n))) (pulsed_times-low from n t narrow)

pub matches_in-low : (from n : ℕ) (t : TimerParts) → is_32_bit t ≡ true → matches_in from t n ≡ matches_in (from % 2 ^ 32) t n
matches_in-low from zero t narrow = refl
matches_in-low from (suc n) t narrow =
    let test : matches_at (counter_after from (suc n)) (pulsed_times from n t)
    ≡ matches_at (counter_after (from % 2 ^ 32) (suc n)) (pulsed_times (from % 2 ^ 32) n t) = matches_at-low from (suc n) (pulsed_times from n t)
    (narrow-pulsed_times from n t narrow) ∙ ap (matches_at (counter_after (from % 2 ^ 32) (suc n))) (pulsed_times-low from n t narrow) in
    ap (λ (b : Bool). cond b (suc (matches_in from t n)) (matches_in from t n)) test
    ∙ ap (λ (x : ℕ). cond (matches_at (counter_after (from % 2 ^ 32) (suc n)) (pulsed_times (from % 2 ^ 32) n t)) (suc x) x)
    (matches_in-low from n t narrow)
