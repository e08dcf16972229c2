-- The units of ticks: they grow with the ticks, and keep near the exact time.
use Rattle.std.proofs.Common.{◌≡◌, ℕ, ◌+◌, ◌-◌, ◌*◌, ◌/◌, ◌%◌, ◌^◌, ◌<◌, ◌≤◌, refl, inl, inr, arith}
use Rattle.std.proofs.Math.Nat.{div-mul-le_self, lt-div-mul-add, mul-le-mul_left, mul-le-mul_right}
use Rattle.std.proofs.lemmas.Nat.{le-div, pow_pos}
use Rattle.std.proofs.lemmas.Bool.{cases_lt}
use Rattle.hv_page.specs.declared.page.HvPage.{HvPage}
use Rattle.hv_page.specs.Scale.{tsc_scale}
use Rattle.hv_page.specs.Page.{published}
use Rattle.hv_page.specs.Time.{units_of, reference_time, IsNear, IsWithinTwo}

-- a product of two words has a word above its low one
pub units_of-below : (scale tsc : ℕ) → scale < 2 ^ 64 → tsc < 2 ^ 64 → units_of scale tsc < 2 ^ 64
unfolding units_of
units_of-below scale tsc few fits = high tsc scale (2 ^ 64) (pow_pos 64) fits few
  where
    high : (t s m : ℕ) → 0 < m → t < m → s < m → t * s / m < m
    high t s m some t-fits s-fits =
        let a : t * s ≤ t * m = mul-le-mul_left t (omega arith) in
        let b : (t + 1) * m ≤ m * m = mul-le-mul_right m (omega arith) in
        let whole : t * s / m * m ≤ t * s = div-mul-le_self (t * s) m in
        elim (cases_lt (t * s / m) m) [
          | inl less ↦ less
          | inr more ↦ absurd (let c : m * m ≤ t * s / m * m = mul-le-mul_right m more in omega (arith, a, b, c, whole))
        ]

-- more ticks, no fewer units
pub units_of-mono : (scale earlier tsc : ℕ) → earlier ≤ tsc → units_of scale earlier ≤ units_of scale tsc
unfolding units_of
units_of-mono scale earlier tsc h = grown (earlier * scale) (tsc * scale) (2 ^ 64) (pow_pos 64) (mul-le-mul_right scale h)
  where
    grown : (a b k : ℕ) → 0 < k → a ≤ b → a / k ≤ b / k
    grown a b k some h = let whole : a / k * k ≤ a = div-mul-le_self a k in le-div (a / k) b k some (omega arith)

-- from one TSC to a later one the page goes on by the units in between
pub reference_time-goes_on : (page : HvPage) (earlier tsc : ℕ) → earlier ≤ tsc
    → reference_time page tsc ≡ (reference_time page earlier + (units_of page.scale tsc - units_of page.scale earlier)) % 2 ^ 64
unfolding reference_time
reference_time-goes_on page earlier tsc h =
    onward (units_of page.scale earlier) (units_of page.scale tsc) page.offset (units_of-mono page.scale earlier tsc h)
  where
    onward : (u v o : ℕ) → u ≤ v → (v + o) % 2 ^ 64 ≡ ((u + o) % 2 ^ 64 + (v - u)) % 2 ^ 64
    onward u v o h = omega arith

-- so it doesn't fall, but where it passes 2^64
pub reference_time-grows : (page : HvPage) (earlier tsc : ℕ) → earlier ≤ tsc
    → reference_time page earlier + (units_of page.scale tsc - units_of page.scale earlier) < 2 ^ 64
    → reference_time page earlier ≤ reference_time page tsc
reference_time-grows page earlier tsc h fits =
    rw (reference_time-goes_on page earlier tsc h)
    (inside (reference_time page earlier) (units_of page.scale tsc - units_of page.scale earlier) fits)
  where
    inside : (a d : ℕ) → a + d < 2 ^ 64 → a ≤ (a + d) % 2 ^ 64
    inside a d fits = omega arith

-- t ticks at k a millisecond, by a scale in m-ths of a unit, where n are a millisecond
rounded : (t k s e m n : ℕ) → 0 < k → 0 < m → s ≡ n / k → e ≡ t * s / m
    → (e * k * m ≤ t * n) × (t * n + t < (e + 1) * k * m + t * k)
rounded t k s e m n runs some s_is e_is =
    let low : n / k * k ≤ n = div-mul-le_self n k in
    let high : n < n / k * k + k = lt-div-mul-add runs in
    let below : t * s / m * m ≤ t * s = div-mul-le_self (t * s) m in
    let above : t * s < t * s / m * m + m = lt-div-mul-add some in
    bounds (rw (← s_is) at low) (rw (← s_is) at high) (rw (← e_is) at below) (rw (← e_is) at above)
  where
    bounds : s * k ≤ n → n < s * k + k → e * m ≤ t * s → t * s < e * m + m → (e * k * m ≤ t * n) × (t * n + t < (e + 1) * k * m + t * k)
    bounds low high below above =
        let a : e * m * k ≤ t * s * k = mul-le-mul_right k below in
        let b : t * (s * k) ≤ t * n = mul-le-mul_left t low in
        let c : t * (n + 1) ≤ t * (s * k + k) = mul-le-mul_left t (omega arith) in
        let d : (t * s + 1) * k ≤ (e * m + m) * k = mul-le-mul_right k (omega arith) in
        (omega (arith, a, b), omega (arith, c, d, runs))

-- by the scale of a rate the units are near the exact time
pub IsNear-units_of : (khz scale tsc : ℕ) → 0 < khz → tsc < 2 ^ 64 → scale ≡ tsc_scale khz → IsNear khz tsc (units_of scale tsc)
unfolding units_of tsc_scale
IsNear-units_of khz scale tsc runs fits is =
    let r = rounded tsc khz scale (tsc * scale / 2 ^ 64) (2 ^ 64) (10000 * 2 ^ 64) runs (pow_pos 64) is refl in
    let most : tsc * khz ≤ 2 ^ 64 * khz = mul-le-mul_right khz (omega arith) in
    record {
      not_ahead = whole (tsc * scale / 2 ^ 64 * khz) tsc r.0;
      behind = partly (tsc * scale / 2 ^ 64) tsc khz r.1;
      less_than_two = two (tsc * scale / 2 ^ 64) tsc khz r.1 most;
    }
  where
    whole : (x t : ℕ) → x * 2 ^ 64 ≤ t * (10000 * 2 ^ 64) → x ≤ t * 10000
    whole x t h = omega arith

    partly : (e t k : ℕ) → t * (10000 * 2 ^ 64) + t < (e + 1) * k * 2 ^ 64 + t * k → t * 10000 * 2 ^ 64 + t < (e + 1) * k * 2 ^ 64 + t * k
    partly e t k h = omega arith

    two : (e t k : ℕ) → t * (10000 * 2 ^ 64) + t < (e + 1) * k * 2 ^ 64 + t * k → t * k ≤ 2 ^ 64 * k → t * 10000 < (e + 2) * k
    two e t k h most = omega arith

-- so those between two TSCs are within two of the exact ones
pub IsWithinTwo-units_of : (khz scale earlier tsc : ℕ) → 0 < khz → tsc < 2 ^ 64 → scale ≡ tsc_scale khz → earlier ≤ tsc
    → IsWithinTwo khz (tsc - earlier) (units_of scale tsc - units_of scale earlier)
IsWithinTwo-units_of khz scale earlier tsc runs fits is h =
    let first = IsNear-units_of khz scale earlier runs (omega arith) is in
    let last = IsNear-units_of khz scale tsc runs fits is in
    let more : units_of scale earlier ≤ units_of scale tsc = units_of-mono scale earlier tsc h in
    let units : (units_of scale tsc - units_of scale earlier) + units_of scale earlier ≡ units_of scale tsc = omega arith in
    let ticks : (tsc - earlier) + earlier ≡ tsc = omega arith in
    let r =
    apart (units_of scale earlier) (units_of scale tsc - units_of scale earlier) earlier (tsc - earlier) khz
    first.not_ahead first.less_than_two (rw (units, ticks) last.not_ahead) (rw (units, ticks) last.less_than_two) in
    record { ahead = r.0; behind = r.1 }
  where
    apart : (u w s d k : ℕ) → u * k ≤ s * 10000 → s * 10000 < (u + 2) * k → (w + u) * k ≤ (d + s) * 10000 → (d + s) * 10000 < (w + u + 2) * k
        → (w * k < d * 10000 + 2 * k) × (d * 10000 < (w + 2) * k)
    apart u w s d k a b c e = (omega arith, omega arith)

-- where it was published the page reads the time
pub reference_time-published : (page : HvPage) (khz tsc_offset tsc now : ℕ) → now / 100 < 2 ^ 64 → units_of (tsc_scale khz) tsc < 2 ^ 64
    → reference_time (published page khz tsc_offset tsc now) tsc ≡ now / 100
unfolding reference_time
reference_time-published page khz tsc_offset tsc now fits few = there (units_of (tsc_scale khz) tsc) (now / 100) few fits
  where
    there : (u q : ℕ) → u < 2 ^ 64 → q < 2 ^ 64 → (u + (q + (2 ^ 64 - u)) % 2 ^ 64) % 2 ^ 64 ≡ q
    there u q few fits = omega arith
