-- The time of a page: it grows with the TSC, and keeps near the exact time.
use Rattle.std.proofs.Common.{◌≡◌, ℕ, ℤ, pos, negsuc, zero, suc, ◌+◌, ◌-◌, ◌*◌, ◌/◌, ◌%◌, ◌^◌, ◌<◌, ◌≤◌, refl, ap, ◌∙◌, arith}
use Rattle.std.proofs.Math.Nat.{div-lt_iff_lt-mul, div-mul-le_self, div-zero, lt-div-mul-add, mul-le-mul_left, mul-le-mul_right, zero-div}
use Rattle.std.proofs.lemmas.Nat.{le-div, pow_pos, pow-add}
use Rattle.pvclock_page.specs.declared.page.Page.{Page}
use Rattle.pvclock_page.specs.Scale.{IsScale}
use Rattle.pvclock_page.specs.Reading.{ticks_since, delta_of, shifted, elapsed_of, whole_reading, reading_of, IsNear}

-- a greater number has no smaller quotient
div-mono : (a b k : ℕ) → 0 < k → a ≤ b → a / k ≤ b / k
div-mono a b k some h = let whole : a / k * k ≤ a = div-mul-le_self a k in le-div (a / k) b k some (omega arith)

-- more ticks, no fewer of them after the shift
pub shifted-mono : (shift : ℤ) (a b : ℕ) → a ≤ b → shifted shift a ≤ shifted shift b
shifted-mono (pos n) a b h = mul-le-mul_right (2 ^ n) h
shifted-mono (negsuc n) a b h = div-mono a b (2 ^ (n + 1)) (pow_pos (n + 1)) h

-- more ticks, no less time
pub elapsed_of-mono : (mul : ℕ) (shift : ℤ) (a b : ℕ) → a ≤ b → elapsed_of a mul shift ≤ elapsed_of b mul shift
elapsed_of-mono mul shift a b h =
    let some : 0 < 2 ^ 32 = pow_pos 32 in
    div-mono (shifted shift a * mul) (shifted shift b * mul) (2 ^ 32) some (mul-le-mul_right mul (shifted-mono shift a b h))

-- the time grows with the ticks, as long as it doesn't wrap
pub reading_of-mono : (page : Page) (earlier tsc : ℕ) → delta_of page earlier ≤ delta_of page tsc → whole_reading page tsc < 2 ^ 64
    → reading_of page earlier ≤ reading_of page tsc
unfolding reading_of
reading_of-mono page earlier tsc h fits = modulo (whole_reading page earlier) (whole_reading page tsc) grown fits
  where
    grown : whole_reading page earlier ≤ whole_reading page tsc
    grown = let e : elapsed_of (delta_of page earlier) page.mul page.shift ≤ elapsed_of (delta_of page tsc) page.mul page.shift =
        elapsed_of-mono page.mul page.shift (delta_of page earlier) (delta_of page tsc) h in omega (arith, e)

    modulo : (a b : ℕ) → a ≤ b → b < 2 ^ 64 → a % 2 ^ 64 ≤ b % 2 ^ 64
    modulo a b h fits = omega arith

-- the rate of a scale isn't 0
pub IsScale-runs : (hz mul : ℕ) (shift : ℤ) → IsScale hz mul shift → 0 < hz
IsScale-runs (suc hz) mul shift s = omega arith
IsScale-runs zero mul (pos n) s =
    let none : 0 * 2 ^ n ≡ 0 = omega arith in
    let e : mul ≡ 0 = s.value ∙ ap (λ (k : ℕ). 1000000000 * 2 ^ 32 / k) none ∙ div-zero (1000000000 * 2 ^ 32) in
    absurd (omega (arith, e, s.least))
IsScale-runs zero mul (negsuc n) s =
    let e : mul ≡ 0 = s.value ∙ div-zero (1000000000 * 2 ^ (32 + (n + 1))) in
    absurd (omega (arith, e, s.least))

-- d units of ticks, of which each is p ticks of the multiplier m, e / k rounded down
pub rounded : (d p m e h k q r : ℕ) → 0 < h → 0 < p → k ≡ h * p → q ≡ d * p → m ≡ e / k → 2 ^ 31 ≤ m → r ≡ q * m / 2 ^ 32
    → (r * 2 ^ 32 * h ≤ d * e) × (d * e * 2 ^ 31 < (r + 1) * 2 ^ 32 * h * 2 ^ 31 + d * e)
rounded d p m e h k q r runs some k_is q_is m_is least r_is =
    let full : 1 * 1 ≤ h * p = product 1 h 1 p runs some in
    let positive : 0 < k = omega arith in
    let low : e / k * k ≤ e = div-mul-le_self e k in
    let high : e < e / k * k + k = lt-div-mul-add positive in
    let below : q * m / 2 ^ 32 * 2 ^ 32 ≤ q * m = div-mul-le_self (q * m) (2 ^ 32) in
    let above : q * m < q * m / 2 ^ 32 * 2 ^ 32 + 2 ^ 32 = lt-div-mul-add (omega arith) in
    bounds d p m e h r
    (rw (← m_is, k_is) at low) (rw (← m_is, k_is) at high)
    (rw (← r_is, q_is) at below) (rw (← r_is, q_is) at above) runs least
  where
    product : (a b x y : ℕ) → a ≤ b → x ≤ y → a * x ≤ b * y
    product a b x y f g =
        let first : a * x ≤ b * x = mul-le-mul_right x f in
        let second : b * x ≤ b * y = mul-le-mul_left b g in
        omega arith

    bounds : (d p m e h r : ℕ) → m * (h * p) ≤ e → e < m * (h * p) + h * p → r * 2 ^ 32 ≤ d * p * m → d * p * m < r * 2 ^ 32 + 2 ^ 32 → 0 < h → 2 ^ 31 ≤ m
        → (r * 2 ^ 32 * h ≤ d * e) × (d * e * 2 ^ 31 < (r + 1) * 2 ^ 32 * h * 2 ^ 31 + d * e)
    bounds d p m e h r low high below above runs least =
        let d_low : d * (m * (h * p)) ≤ d * e = mul-le-mul_left d low in
        let e_high : e ≤ m * (h * p) + h * p = omega arith in
        let d_high : d * e ≤ d * (m * (h * p) + h * p) = mul-le-mul_left d e_high in
        let r_below : r * 2 ^ 32 * h ≤ d * p * m * h = mul-le-mul_right h below in
        let next : d * p * m + 1 ≤ r * 2 ^ 32 + 2 ^ 32 = omega arith in
        let r_above : (d * p * m + 1) * h ≤ (r * 2 ^ 32 + 2 ^ 32) * h = mul-le-mul_right h next in
        let small : d * (h * p) * 2 ^ 31 ≤ d * (h * p) * m = mul-le-mul_left (d * (h * p)) least in
        (omega arith, omega arith)

-- what a scale makes of ticks is near the exact time
pub IsNear-elapsed_of : (hz delta mul : ℕ) (shift : ℤ) → IsScale hz mul shift → IsNear hz delta shift (elapsed_of delta mul shift)
IsNear-elapsed_of hz delta mul (pos n) s =
    let runs : 0 < hz = IsScale-runs hz mul (pos n) s in
    let near = rounded delta (2 ^ n) mul (1000000000 * 2 ^ 32) hz (hz * 2 ^ n) (delta * 2 ^ n) (delta * 2 ^ n * mul / 2 ^ 32) runs (pow_pos n)
    (omega arith) (omega arith) s.value s.least (omega arith) in
    record { not_ahead = omega (arith, near.0); behind = omega (arith, near.1) }
IsNear-elapsed_of hz delta mul (negsuc n) s =
    let runs : 0 < hz = IsScale-runs hz mul (negsuc n) s in
    let some : 0 < 2 ^ (n + 1) = pow_pos (n + 1) in
    let wide : 1000000000 * 2 ^ (32 + (n + 1)) ≡ 1000000000 * 2 ^ 32 * 2 ^ (n + 1) = ap (λ (x : ℕ). 1000000000 * x) (pow-add 2 32 (n + 1)) ∙ omega arith in
    let mul_is : mul ≡ 1000000000 * 2 ^ 32 * 2 ^ (n + 1) / hz = s.value ∙ ap (λ (x : ℕ). x / hz) wide in
    let near = rounded (delta / 2 ^ (n + 1)) 1 mul (1000000000 * 2 ^ 32 * 2 ^ (n + 1)) hz hz (delta / 2 ^ (n + 1))
    (delta / 2 ^ (n + 1) * mul / 2 ^ 32) runs (omega arith) (omega arith) (omega arith) mul_is s.least (omega arith) in
    let quotient : 1000000000 * 2 ^ 32 * 2 ^ (n + 1) / hz < 2 ^ 32 = omega (arith, mul_is, s.most) in
    let narrow : 1000000000 * 2 ^ 32 * 2 ^ (n + 1) < 2 ^ 32 * hz = (div-lt_iff_lt-mul runs).0 quotient in
    let kept : delta / 2 ^ (n + 1) * 2 ^ (n + 1) ≤ delta = div-mul-le_self delta (2 ^ (n + 1)) in
    let dropped : delta < delta / 2 ^ (n + 1) * 2 ^ (n + 1) + 2 ^ (n + 1) = lt-div-mul-add some in
    let bounds = right_bounds hz delta (delta / 2 ^ (n + 1)) (2 ^ (n + 1)) (delta - delta / 2 ^ (n + 1) * 2 ^ (n + 1)) (delta / 2 ^ (n + 1) * mul / 2 ^ 32)
    (2 * 2 ^ (n + 1) - 1)
    some near.0 near.1 narrow (omega arith) (omega arith) (omega arith) in
    record { not_ahead = bounds.0; behind = bounds.1 }
  where
    right_bounds : (hz delta d s e r u : ℕ) → 0 < s → r * 2 ^ 32 * hz ≤ d * (1000000000 * 2 ^ 32 * s)
        → d * (1000000000 * 2 ^ 32 * s) * 2 ^ 31 < (r + 1) * 2 ^ 32 * hz * 2 ^ 31 + d * (1000000000 * 2 ^ 32 * s)
        → 1000000000 * 2 ^ 32 * s < 2 ^ 32 * hz → d * s + e ≡ delta → e < s → u + 1 ≡ 2 * s
        → (r * hz ≤ delta * 1000000000) × (delta * 1000000000 * s * 2 ^ 31 < (r * s + u) * hz * 2 ^ 31 + delta * 1000000000 * s)
    right_bounds hz delta d s e r u some low high narrow whole few slack_is =
        let tick : 1000000000 * s + 1 ≤ hz = omega arith in
        let units : d * s * 1000000000 * 2 ^ 31 + 1 ≤ r * hz * 2 ^ 31 + hz * 2 ^ 31 + d * s * 1000000000 = omega arith in
        let all : (d * s * 1000000000 * 2 ^ 31 + 1) * s ≤ (r * hz * 2 ^ 31 + hz * 2 ^ 31 + d * s * 1000000000) * s = mul-le-mul_right s units in
        let dropped : e * (1000000000 * s + 1) ≤ e * hz = mul-le-mul_left e tick in
        let rest : e + 1 ≤ s = omega arith in
        let short : (e + 1) * hz ≤ s * hz = mul-le-mul_right hz rest in
        let slack : (u + 1) * hz ≡ 2 * s * hz = ap (λ (x : ℕ). x * hz) slack_is in
        rw (← whole) (omega arith, omega arith)

-- what a time that doesn't wrap adds to the page's
pub elapsed-whole : (page : Page) (tsc : ℕ) → whole_reading page tsc < 2 ^ 64
    → reading_of page tsc - page.system_time ≡ elapsed_of (delta_of page tsc) page.mul page.shift
unfolding reading_of
elapsed-whole page tsc fits = less (elapsed_of (delta_of page tsc) page.mul page.shift) page.system_time fits
  where
    less : (a b : ℕ) → a + b < 2 ^ 64 → (a + b) % 2 ^ 64 - b ≡ a
    less a b fits = omega arith

-- no ticks take no time
pub elapsed_of-zero : (mul : ℕ) (shift : ℤ) → elapsed_of 0 mul shift ≡ 0
elapsed_of-zero mul (pos n) = omega arith
elapsed_of-zero mul (negsuc n) = let none : 0 / 2 ^ (n + 1) ≡ 0 = zero-div (2 ^ (n + 1)) in rw none (omega arith)

-- where no ticks have come the time is the page's
pub reading_of-zero : (page : Page) (tsc : ℕ) → page.system_time < 2 ^ 64 → delta_of page tsc ≡ 0 → reading_of page tsc ≡ page.system_time
unfolding reading_of
reading_of-zero page tsc fits none =
    let still : elapsed_of (delta_of page tsc) page.mul page.shift ≡ 0 =
    ap (λ (n : ℕ). elapsed_of n page.mul page.shift) none ∙ elapsed_of-zero page.mul page.shift in
    ap (λ (n : ℕ). (n + page.system_time) % 2 ^ 64) still ∙ alone page.system_time fits
  where
    alone : (n : ℕ) → n < 2 ^ 64 → (0 + n) % 2 ^ 64 ≡ n
    alone n fits = omega arith

-- at the timestamp no ticks have come
pub ticks_since-same : (n : ℕ) → n < 2 ^ 64 → ticks_since n n ≡ 0
ticks_since-same n fits = let e : (n + (2 ^ 64 - n)) % 2 ^ 64 ≡ 0 = omega arith in rw e refl
