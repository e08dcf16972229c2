-- Ticks that are shifted, in 64 and 128 bits.
use Rattle.std.proofs.Common.{◌≡◌, ℕ, ◌+◌, ◌-◌, ◌*◌, ◌/◌, ◌^◌, ◌<◌, ◌≤◌, Option, Some, None, unwrap_or, inl, inr, sym, ap, ◌∙◌, arith}
use Rattle.std.proofs.Math.Nat.{div-eq_of_lt, mul-div-mul_right, mul-div_cancel, pow-le-pow_right}
use Rattle.std.specs.Option.{SomeIff}
use Rattle.std.proofs.lemmas.Bool.{cases_lt}
use Rattle.std.proofs.lemmas.Nat.{pow_pos, pow-add}

-- a short shift to the left is a shorter one to the right, after the product
pub left_short : (delta mul n : ℕ) → n ≤ 32 → delta * mul / 2 ^ (32 - n) ≡ delta * 2 ^ n * mul / 2 ^ 32
left_short delta mul n h =
    let place : 32 ≡ (32 - n) + n = omega arith in
    let split : 2 ^ 32 ≡ 2 ^ (32 - n) * 2 ^ n = ap (λ (i : ℕ). 2 ^ i) place ∙ pow-add 2 (32 - n) n in
    let regrouped : delta * 2 ^ n * mul ≡ delta * mul * 2 ^ n = omega arith in
    sym (ap (λ (m : ℕ). m / 2 ^ 32) regrouped
    ∙ ap (λ (d : ℕ). delta * mul * 2 ^ n / d) split
    ∙ mul-div-mul_right (delta * mul) (2 ^ (32 - n)) (pow_pos n))

-- a long one is one to the left
pub left_long : (delta mul n : ℕ) → 32 ≤ n → delta * mul * 2 ^ (n - 32) ≡ delta * 2 ^ n * mul / 2 ^ 32
left_long delta mul n h =
    let place : n ≡ (n - 32) + 32 = omega arith in
    let split : 2 ^ n ≡ 2 ^ (n - 32) * 2 ^ 32 = ap (λ (i : ℕ). 2 ^ i) place ∙ pow-add 2 (n - 32) 32 in
    let regrouped : delta * 2 ^ n * mul ≡ delta * mul * 2 ^ (n - 32) * 2 ^ 32 = ap (λ (p : ℕ). delta * p * mul) split ∙ omega arith in
    let some : 0 < 2 ^ 32 = pow_pos 32 in
    sym (ap (λ (m : ℕ). m / 2 ^ 32) regrouped ∙ mul-div_cancel (delta * mul * 2 ^ (n - 32)) some)

-- a shift to the right that is too wide for 64 bits leaves nothing
pub right_wide : (delta n : ℕ) (ticks : Option ℕ) → delta < 2 ^ 64 → SomeIff ticks (n < 64) (delta / 2 ^ n) → unwrap_or ticks 0 ≡ delta / 2 ^ n
right_wide delta n (Some ticks) fits h = h.1
right_wide delta n None fits h =
    let wide : 64 ≤ n = elim (cases_lt n 64) [ inl less ↦ absurd (h less) | inr more ↦ more ] in
    let above : 2 ^ 64 ≤ 2 ^ n = pow-le-pow_right (omega arith) wide in
    let small : delta < 2 ^ n = omega arith in
    sym (div-eq_of_lt small)
