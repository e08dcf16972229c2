-- Lemmas on the pulses of a clock of at most one pulse a nanosecond.
use Rattle.std.proofs.Common.{◌≡◌, ℕ, zero, suc, ◌+◌, ◌-◌, ◌*◌, ◌/◌, ◌%◌, ◌<◌, ◌≤◌, min, Bool, true, false, cond, ltb, refl, sym, ap, ◌∙◌, inl, inr, arith}
use Rattle.std.proofs.Math.Nat.{div-eq_of_lt-le, mul-le-mul_right, div-mul-le_self, lt-div-mul-add, div-lt_iff_lt-mul, add-mul-div_right}
use Rattle.std.proofs.lemmas.Nat.{le-div, div-add-mod'}
use Rattle.std.proofs.lemmas.Grind.{div_ceil_times}
use Rattle.std.proofs.lemmas.Bool.{lt-ltb, le-ltb, cases_lt}
use Rattle.clk_units.specs.Pulses.{pulses_by, falls_at, falls_up_to, pulses_from, time_of, IsTimeOf}

-- more time sees no fewer pulses
pub pulses_by-mono : (hz s t : ℕ) → s ≤ t → pulses_by hz s ≤ pulses_by hz t
unfolding pulses_by
pulses_by-mono hz s t h =
    let below : s * hz / 1000000000 * 1000000000 ≤ s * hz = div-mul-le_self (s * hz) 1000000000 in
    let more : s * hz ≤ t * hz = mul-le-mul_right hz h in
    le-div (s * hz / 1000000000) (t * hz) 1000000000 (omega arith) (omega arith)

-- a nanosecond sees at most one pulse
pub pulses_by-suc : (hz t : ℕ) → hz ≤ 1000000000 → pulses_by hz (suc t) ≤ suc (pulses_by hz t)
unfolding pulses_by
pulses_by-suc hz t slow =
    let below : t * hz < t * hz / 1000000000 * 1000000000 + 1000000000 = lt-div-mul-add (omega arith) in
    let whole : suc t * hz / 1000000000 * 1000000000 ≤ suc t * hz = div-mul-le_self (suc t * hz) 1000000000 in
    omega arith

-- none at nanosecond 0
pub pulses_by-zero : (hz : ℕ) → pulses_by hz 0 ≡ 0
unfolding pulses_by
pulses_by-zero hz = omega arith

-- at most one a nanosecond
pub pulses_by_le : (hz t : ℕ) → hz ≤ 1000000000 → pulses_by hz t ≤ t
pulses_by_le hz zero slow = omega (arith, pulses_by-zero hz)
pulses_by_le hz (suc t) slow = omega (arith, pulses_by_le hz t slow, pulses_by-suc hz t slow)

-- whether a pulse falls, by the numbers seen
pub falls_at-suc : (hz t : ℕ) → falls_at hz (suc t) ≡ ltb (pulses_by hz t) (pulses_by hz (suc t))
unfolding falls_at
falls_at-suc hz t = ap (λ (s : ℕ). ltb (pulses_by hz s) (pulses_by hz (suc t))) (omega arith)

-- the number seen goes up by one where a pulse falls, and else stays
pub pulses_by-more : (hz t : ℕ) → hz ≤ 1000000000 → pulses_by hz (suc t) ≡ cond (falls_at hz (suc t)) (suc (pulses_by hz t)) (pulses_by hz t)
pulses_by-more hz t slow =
    let mono : pulses_by hz t ≤ pulses_by hz (suc t) = pulses_by-mono hz t (suc t) (omega arith) in
    let few : pulses_by hz (suc t) ≤ suc (pulses_by hz t) = pulses_by-suc hz t slow in
    rw (falls_at-suc hz t) (by_cases (pulses_by hz t) (pulses_by hz (suc t)) mono few)
  where
    by_cases : (a b : ℕ) → a ≤ b → b ≤ suc a → b ≡ cond (ltb a b) (suc a) a
    by_cases a b low high = elim (cases_lt a b) [
      | inl less ↦ rw (lt-ltb a b less) (omega arith)
      | inr same ↦ rw (le-ltb a b same) (omega arith)
    ]

-- the number seen is the number of pulses that fell
pub falls_up_to-is : (hz t : ℕ) → hz ≤ 1000000000 → falls_up_to hz t ≡ pulses_by hz t
falls_up_to-is hz zero slow = sym (pulses_by-zero hz)
falls_up_to-is hz (suc t) slow =
    ap (λ (n : ℕ). cond (falls_at hz (suc t)) (suc n) n) (falls_up_to-is hz t slow) ∙ sym (pulses_by-more hz t slow)

-- no nanoseconds, no pulses
pub pulses_from-zero : (hz t : ℕ) → pulses_from hz t 0 ≡ 0
unfolding pulses_from
pulses_from-zero hz t = let e : pulses_by hz (t + 0) ≡ pulses_by hz t = ap (pulses_by hz) (omega arith) in omega arith

-- one nanosecond more
pub pulses_from-more : (hz t n : ℕ) → hz ≤ 1000000000 → pulses_from hz t (suc n) ≡
    cond (falls_at hz (t + n + 1)) (suc (pulses_from hz t n)) (pulses_from hz t n)
unfolding pulses_from
pulses_from-more hz t n slow =
    let place : t + suc n ≡ suc (t + n) = omega arith in
    let next : t + n + 1 ≡ suc (t + n) = omega arith in
    let mono : pulses_by hz t ≤ pulses_by hz (t + n) = pulses_by-mono hz t (t + n) (omega arith) in
    rw (place, next, pulses_by-more hz (t + n) slow) (less (falls_at hz (suc (t + n))) (pulses_by hz (t + n)) (pulses_by hz t) mono)
  where
    less : (b : Bool) (x y : ℕ) → y ≤ x → cond b (suc x) x - y ≡ cond b (suc (x - y)) (x - y)
    less true x y h = omega arith
    less false x y h = refl

-- with those before them, they are the pulses seen at the end
pub pulses_from-joins : (hz t n : ℕ) → pulses_from hz t n + pulses_by hz t ≡ pulses_by hz (t + n)
unfolding pulses_from
pulses_from-joins hz t n = omega (arith, pulses_by-mono hz t (t + n) (omega arith))

-- more nanoseconds, no fewer pulses
pub pulses_from-mono : (hz t i n : ℕ) → i ≤ n → pulses_from hz t i ≤ pulses_from hz t n
pulses_from-mono hz t i n h =
    omega (arith, pulses_from-joins hz t i, pulses_from-joins hz t n, pulses_by-mono hz (t + i) (t + n) (omega arith))

-- at most one a nanosecond
pub pulses_from_le : (hz t n : ℕ) → hz ≤ 1000000000 → pulses_from hz t n ≤ n
pulses_from_le hz t zero slow = omega (arith, pulses_from-zero hz t)
pulses_from_le hz t (suc n) slow =
    rw (pulses_from-more hz t n slow) (at_most (falls_at hz (t + n + 1)) (pulses_from hz t n) n (pulses_from_le hz t n slow))
  where
    at_most : (b : Bool) (x m : ℕ) → x ≤ m → cond b (suc x) x ≤ suc m
    at_most true x m h = omega arith
    at_most false x m h = omega arith

-- a pulse has fallen from its time on ..
pub le-pulses_by : (hz n t : ℕ) → 0 < hz → time_of hz n ≤ t → n ≤ pulses_by hz t
unfolding time_of pulses_by
le-pulses_by hz n t runs h =
    let below : n * 1000000000 + hz - 1 < (n * 1000000000 + hz - 1) / hz * hz + hz = lt-div-mul-add runs in
    let more : (n * 1000000000 + hz - 1) / hz * hz ≤ t * hz = mul-le-mul_right hz h in
    le-div n (t * hz) 1000000000 (omega arith) (omega arith)

-- .. and not before
pub time_of-le : (hz n t : ℕ) → 0 < hz → n ≤ pulses_by hz t → time_of hz n ≤ t
unfolding time_of pulses_by
time_of-le hz n t runs h =
    let whole : t * hz / 1000000000 * 1000000000 ≤ t * hz = div-mul-le_self (t * hz) 1000000000 in
    let lower : n * 1000000000 ≤ t * hz / 1000000000 * 1000000000 = mul-le-mul_right 1000000000 h in
    let above : n * 1000000000 + hz - 1 < suc t * hz = omega arith in
    time_of_below n t hz runs above
  where
    time_of_below : (n t hz : ℕ) → 0 < hz → n * 1000000000 + hz - 1 < suc t * hz → (n * 1000000000 + hz - 1) / hz ≤ t
    time_of_below n t hz runs above =
        let q : (n * 1000000000 + hz - 1) / hz < suc t = (div-lt_iff_lt-mul runs).1 above in omega arith

-- a pulse of a stretch falls by its end
pub comes_by : (hz from to k : ℕ) → 0 < hz → from ≤ to → k ≤ pulses_from hz from (to - from) → time_of hz (pulses_by hz from + k) ≤ to
comes_by hz from to k runs order h =
    let whole : from + (to - from) ≡ to = omega arith in
    time_of-le hz (pulses_by hz from + k) to runs (omega (arith, rw whole at (pulses_from-joins hz from (to - from)), h))

-- the pulses by the end of a stretch are no more than its nanoseconds
pub joined_fits : (hz from to : ℕ) → hz ≤ 1000000000 → from ≤ to → pulses_by hz from + pulses_from hz from (to - from) ≤ to
joined_fits hz from to slow order =
    let whole : from + (to - from) ≡ to = omega arith in
    omega (arith, rw whole at (pulses_from-joins hz from (to - from)), pulses_by_le hz to slow)

-- the formula is the time of the definition
pub IsTimeOf-time_of : (hz n : ℕ) → 0 < hz → hz ≤ 1000000000 → IsTimeOf hz n (time_of hz n)
IsTimeOf-time_of hz n runs slow = record {
  fallen = rw (falls_up_to-is hz (time_of hz n) slow) (le-pulses_by hz n (time_of hz n) runs (omega arith));
  least = λ s h. time_of-le hz n s runs (rw (falls_up_to-is hz s slow) at h);
}

-- by whole seconds and the rest, in 64 bits
pub pulses_by-split : (hz t : ℕ) → t / 1000000000 * hz + t % 1000000000 * hz / 1000000000 ≡ pulses_by hz t
unfolding pulses_by
pulses_by-split hz t =
    let parts : t / 1000000000 * 1000000000 + t % 1000000000 ≡ t = div-add-mod' t 1000000000 in
    let product : t * hz ≡ t % 1000000000 * hz + t / 1000000000 * hz * 1000000000 = sym (grouped (t / 1000000000) (t % 1000000000) t hz parts) in
    let positive : 0 < 1000000000 = omega arith in
    ◌∙◌ (omega arith) (sym (ap (λ (x : ℕ). x / 1000000000) product ∙ add-mul-div_right (t % 1000000000 * hz) (t / 1000000000 * hz) positive))
  where
    grouped : (q r t hz : ℕ) → q * 1000000000 + r ≡ t → r * hz + q * hz * 1000000000 ≡ t * hz
    grouped q r t hz e = rw (← e) (omega arith)

-- a quotient rounded up, in the two ways of writing it
pub rounded_up : (x d : ℕ) → 0 < d → x / d + min 1 (x % d) ≡ (x + d - 1) / d
rounded_up x d positive =
    let bounds : (x ≤ (x / d + min 1 (x % d)) * d) × ((x / d + min 1 (x % d)) * d < x + d) = div_ceil_times x d positive in
    sym (div-eq_of_lt-le d (omega (arith, bounds.1)) (omega (arith, bounds.0)))

-- by whole seconds and the rest, in 64 bits
pub time_of-split : (hz n : ℕ) → 0 < hz → n / hz * 1000000000 + (n % hz * 1000000000 / hz + min 1 (n % hz * 1000000000 % hz)) ≡ time_of hz n
unfolding time_of
time_of-split hz n runs =
    let parts : n / hz * hz + n % hz ≡ n = div-add-mod' n hz in
    let rest : n % hz * 1000000000 / hz + min 1 (n % hz * 1000000000 % hz) ≡ (n % hz * 1000000000 + hz - 1) / hz = rounded_up (n % hz * 1000000000) hz runs in
    let whole : n * 1000000000 + hz - 1 ≡ n % hz * 1000000000 + hz - 1 + n / hz * 1000000000 * hz = grouped (n / hz) (n % hz) n hz runs parts in
    let quotient : (n % hz * 1000000000 + hz - 1 + n / hz * 1000000000 * hz) / hz ≡ (n % hz * 1000000000 + hz - 1) / hz + n / hz * 1000000000 =
    add-mul-div_right (n % hz * 1000000000 + hz - 1) (n / hz * 1000000000) runs in
    rw (rest, whole, quotient) (omega arith)
  where
    grouped : (q r n hz : ℕ) → 0 < hz → q * hz + r ≡ n → n * 1000000000 + hz - 1 ≡ r * 1000000000 + hz - 1 + q * 1000000000 * hz
    grouped q r n hz runs e = rw (← e) (omega arith)
