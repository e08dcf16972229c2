-- Several pulses.
use Rattle.std.proofs.Common.{◌≡◌, ℕ, zero, suc, ◌+◌, ◌≤◌, cond, refl, ap, ◌∙◌, arith}
use Rattle.clk_units.specs.Events.{CountsUp}
use Rattle.clk_units.proofs.Events.{CountsUp-by_test, CountsUp-few}
use Rattle.pit_counter.specs.Table.{pulsed, pulsed_times, rises_next, rises_in}
use Rattle.pit_counter.specs.declared.parts.CounterParts.{CounterParts}

-- no pulses
pub pulsed_times-zero : (c : CounterParts) → pulsed_times 0 c ≡ c
unfolding pulsed_times
pulsed_times-zero c = refl

-- one pulse more
pub pulsed_times-suc : (n : ℕ) (c : CounterParts) → pulsed_times (suc n) c ≡ pulsed (pulsed_times n c)
unfolding pulsed_times
pulsed_times-suc n c = refl

-- some pulses after others
pub pulsed_times-+ : (m n : ℕ) (c : CounterParts) → pulsed_times (m + n) c ≡ pulsed_times m (pulsed_times n c)
unfolding pulsed_times
pulsed_times-+ zero n c = ap (λ (k : ℕ). pulsed_times k c) (omega arith)
pulsed_times-+ (suc m) n c =
    let e : suc m + n ≡ suc (m + n) = omega arith in
    ap (λ (k : ℕ). pulsed_times k c) e ∙ ap pulsed (pulsed_times-+ m n c)

-- no pulses, no rises
pub rises_in-zero : (c : CounterParts) → rises_in c 0 ≡ 0
unfolding rises_in
rises_in-zero c = refl

-- one pulse more
pub rises_in-suc : (c : CounterParts) (n : ℕ) → rises_in c (suc n) ≡ cond (rises_next (pulsed_times n c)) (suc (rises_in c n)) (rises_in c n)
unfolding rises_in
rises_in-suc c n = refl

-- OUT rises at most once a pulse
pub CountsUp-rises_in : (c : CounterParts) → CountsUp (rises_in c)
CountsUp-rises_in c = CountsUp-by_test (rises_in c) (λ n. rises_next (pulsed_times n c)) (rises_in-zero c) (rises_in-suc c)

pub rises_in-le : (c : CounterParts) (n : ℕ) → rises_in c n ≤ n
rises_in-le c n = CountsUp-few (rises_in c) (CountsUp-rises_in c) n
