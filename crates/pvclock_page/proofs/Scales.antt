-- The scale of a TSC: there is one, and how it is found.
use Rattle.std.proofs.Common.{◌≡◌, ℕ, ℤ, pos, negsuc, suc, ◌+◌, ◌-◌, ◌*◌, ◌/◌, ◌^◌, ◌<◌, ◌≤◌, ◌+ℤ◌, leb, cond, refl, sym, ap, ◌∙◌, inl, inr, arith}
use Rattle.std.proofs.Math.Nat.{div-mul-le_self, div-div-eq-div-mul, mul-div-mul_right, mul-le-mul_right, mul-le-mul_left, pow-le-pow_right, pow-suc}
use Rattle.std.proofs.lemmas.Nat.{le-div, div_below, pow_pos, pow-add, leading_top}
use Rattle.std.specs.Int.Count.{count_leading_zeros}
use Rattle.std.proofs.lemmas.Int.{ints}
use Rattle.std.proofs.lemmas.Bool.{cases_lt, cases_order, le-leb, lt-leb}
use Rattle.pvclock_page.specs.Scale.{mul_at, IsScale, shift_for, mul_for}

-- a quotient is at most half of another, where its number or its divisor says so
pub halved : (m n a b : ℕ) → 0 < a → n * 2 * a ≤ m * b → 0 < b → n / b * 2 ≤ m / a
halved m n a b some h full =
    let whole : n / b * b ≤ n = div-mul-le_self n b in
    let twice : n / b * b * (2 * a) ≤ n * (2 * a) = mul-le-mul_right (2 * a) whole in
    le-div (n / b * 2) m a some (cancelled (n / b * 2 * a) m b full (omega arith))
  where
    cancelled : (x y b : ℕ) → 0 < b → x * b ≤ y * b → x ≤ y
    cancelled x y b full h = elim (cases_order x y) [
      | inl same ↦ omega arith
      | inr other ↦ elim other [
        | inl less ↦ omega arith
        | inr more ↦ let wide : suc y * b ≤ x * b = mul-le-mul_right b more in absurd (omega arith)
      ]
    ]

-- a power of 2 is at least twice each power below it
pub doubled : (j k : ℕ) → j < k → 2 ^ j * 2 ≤ 2 ^ k
doubled j k h =
    let step : 2 ^ suc j ≡ 2 ^ j * 2 = pow-suc 2 j in
    let up : 2 ^ suc j ≤ 2 ^ k = pow-le-pow_right (omega arith) h in
    omega arith

-- a greater shift halves the multiplier, or more
pub mul_at-pos : (hz j k : ℕ) → 0 < hz → j < k → mul_at hz (pos k) * 2 ≤ mul_at hz (pos j)
mul_at-pos hz j k runs h =
    let few : 0 < 2 ^ j = pow_pos j in
    let many : 0 < 2 ^ k = pow_pos k in
    let up : hz * (2 ^ j * 2) ≤ hz * 2 ^ k = mul-le-mul_left hz (doubled j k h) in
    let some : hz * 1 ≤ hz * 2 ^ j = mul-le-mul_left hz few in
    let full : hz * 1 ≤ hz * 2 ^ k = mul-le-mul_left hz many in
    halved (1000000000 * 2 ^ 32) (1000000000 * 2 ^ 32) (hz * 2 ^ j) (hz * 2 ^ k) (omega arith) (omega arith) (omega arith)

pub mul_at-negsuc : (hz j k : ℕ) → 0 < hz → j < k → mul_at hz (negsuc j) * 2 ≤ mul_at hz (negsuc k)
mul_at-negsuc hz j k runs h =
    let up : 2 ^ (32 + (j + 1)) * 2 ≤ 2 ^ (32 + (k + 1)) = doubled (32 + (j + 1)) (32 + (k + 1)) (omega arith) in
    let wide : 2 ^ (32 + (j + 1)) * 2 * hz ≤ 2 ^ (32 + (k + 1)) * hz = mul-le-mul_right hz up in
    halved (1000000000 * 2 ^ (32 + (k + 1))) (1000000000 * 2 ^ (32 + (j + 1))) hz hz runs (omega arith) runs

pub mul_at-mixed : (hz j k : ℕ) → 0 < hz → mul_at hz (pos k) * 2 ≤ mul_at hz (negsuc j)
mul_at-mixed hz j k runs =
    let many : 0 < 2 ^ k = pow_pos k in
    let full : hz * 1 ≤ hz * 2 ^ k = mul-le-mul_left hz many in
    let up : 2 ^ 32 * 2 ≤ 2 ^ (32 + (j + 1)) = doubled 32 (32 + (j + 1)) (omega arith) in
    let wide : (2 ^ 32 * 2) * hz ≤ 2 ^ (32 + (j + 1)) * (hz * 2 ^ k) = products (2 ^ 32 * 2) (2 ^ (32 + (j + 1))) hz (hz * 2 ^ k) up (omega arith) in
    halved (1000000000 * 2 ^ (32 + (j + 1))) (1000000000 * 2 ^ 32) hz (hz * 2 ^ k) runs (omega arith) (omega arith)
  where
    products : (a b x y : ℕ) → a ≤ b → x ≤ y → a * x ≤ b * y
    products a b x y h g =
        let first : a * x ≤ b * x = mul-le-mul_right x h in
        let second : b * x ≤ b * y = mul-le-mul_left b g in
        omega arith

-- two scales have one shift
pub shift_once : (hz m n : ℕ) (y z : ℤ) → 0 < hz → IsScale hz m y → IsScale hz n z → y ≡ z
shift_once hz m n (pos j) (pos k) runs f g = elim (cases_order j k) [
  | inl same ↦ ap pos same
  | inr other ↦ elim other [
    | inl less ↦ absurd (omega (arith, mul_at-pos hz j k runs less, f.value, f.most, g.value, g.least))
    | inr more ↦ absurd (omega (arith, mul_at-pos hz k j runs more, f.value, f.least, g.value, g.most))
  ]
]
shift_once hz m n (negsuc j) (negsuc k) runs f g = elim (cases_order j k) [
  | inl same ↦ ap negsuc same
  | inr other ↦ elim other [
    | inl less ↦ absurd (omega (arith, mul_at-negsuc hz j k runs less, f.value, f.least, g.value, g.most))
    | inr more ↦ absurd (omega (arith, mul_at-negsuc hz k j runs more, f.value, f.most, g.value, g.least))
  ]
]
shift_once hz m n (pos j) (negsuc k) runs f g = absurd (omega (arith, mul_at-mixed hz k j runs, f.value, f.least, g.value, g.most))
shift_once hz m n (negsuc j) (pos k) runs f g = absurd (omega (arith, mul_at-mixed hz j k runs, f.value, f.most, g.value, g.least))

-- there is at most one scale
pub IsScale-one : (hz m n : ℕ) (y z : ℤ) → 0 < hz → IsScale hz m y → IsScale hz n z → (m ≡ n) × (y ≡ z)
IsScale-one hz m n y z runs f g =
    let same : y ≡ z = shift_once hz m n y z runs f g in
    (f.value ∙ ap (mul_at hz) same ∙ sym g.value, same)

-- the multiplier of the widest shift to the right, halved n times
pub mul_at-halved : (hz n : ℕ) (z : ℤ) → z +ℤ pos 3 ≡ pos n → 1000000000 * 2 ^ 35 / hz / 2 ^ n ≡ mul_at hz z
mul_at-halved hz n (pos k) e =
    let place : n ≡ k + 3 = omega (arith, ints) in
    let split : 2 ^ n ≡ 2 ^ k * 8 = ap (λ (i : ℕ). 2 ^ i) place ∙ pow-add 2 k 3 in
    let regrouped : hz * 2 ^ n ≡ hz * 2 ^ k * 8 = ap (λ (p : ℕ). hz * p) split ∙ omega arith in
    let eight : 0 < 8 = omega arith in
    div-div-eq-div-mul (1000000000 * 2 ^ 35) hz (2 ^ n)
    ∙ ap (λ (d : ℕ). 1000000000 * 2 ^ 35 / d) regrouped
    ∙ mul-div-mul_right (1000000000 * 2 ^ 32) (hz * 2 ^ k) eight
mul_at-halved hz n (negsuc k) e =
    let place : 35 ≡ (32 + (k + 1)) + n = omega (arith, ints) in
    let split : 2 ^ 35 ≡ 2 ^ (32 + (k + 1)) * 2 ^ n = ap (λ (i : ℕ). 2 ^ i) place ∙ pow-add 2 (32 + (k + 1)) n in
    let regrouped : 1000000000 * 2 ^ 35 ≡ 1000000000 * 2 ^ (32 + (k + 1)) * 2 ^ n = ap (λ (p : ℕ). 1000000000 * p) split ∙ omega arith in
    div-div-eq-div-mul (1000000000 * 2 ^ 35) hz (2 ^ n)
    ∙ ap (λ (m : ℕ). m / (hz * 2 ^ n)) regrouped
    ∙ mul-div-mul_right (1000000000 * 2 ^ (32 + (k + 1))) hz (pow_pos n)

-- how far a number of 32 to 39 bits is shifted to fill 32 bits
pub filled : (w : ℕ) → 2 ^ 31 ≤ w → w < 2 ^ 39
    → (25 ≤ count_leading_zeros 64 w) × (count_leading_zeros 64 w ≤ 32) × (2 ^ 31 ≤ w / 2 ^ (32 - count_leading_zeros 64 w))
    × (w / 2 ^ (32 - count_leading_zeros 64 w) < 2 ^ 32)
filled w low high = by_top (leading_top 64 w (omega arith) (omega arith))
  where
    by_top : (j : ℕ) × (count_leading_zeros 64 w + suc j ≡ 64) × (2 ^ j ≤ w) × (w < 2 ^ suc j)
        → (25 ≤ count_leading_zeros 64 w) × (count_leading_zeros 64 w ≤ 32) × (2 ^ 31 ≤ w / 2 ^ (32 - count_leading_zeros 64 w))
        × (w / 2 ^ (32 - count_leading_zeros 64 w) < 2 ^ 32)
    by_top (j, e, least, most) =
        let above : 31 ≤ j = elim (cases_lt j 31) [
          | inl less ↦ let short : 2 ^ suc j ≤ 2 ^ 31 = pow-le-pow_right (omega arith) less in absurd (omega arith)
          | inr more ↦ more
        ] in
        let below : j < 39 = elim (cases_lt j 39) [
          | inl less ↦ less
          | inr more ↦ let long : 2 ^ 39 ≤ 2 ^ j = pow-le-pow_right (omega arith) more in absurd (omega arith)
        ] in
        let place : 32 - count_leading_zeros 64 w ≡ j - 31 = omega arith in
        let some : 0 < 2 ^ (j - 31) = pow_pos (j - 31) in
        let whole : 2 ^ j ≡ 2 ^ 31 * 2 ^ (j - 31) = ap (λ (i : ℕ). 2 ^ i) (omega arith) ∙ pow-add 2 31 (j - 31) in
        let next : 2 ^ suc j ≡ 2 ^ 32 * 2 ^ (j - 31) = ap (λ (i : ℕ). 2 ^ i) (omega arith) ∙ pow-add 2 32 (j - 31) in
        rw place (
          omega arith,
          omega arith,
          le-div (2 ^ 31) w (2 ^ (j - 31)) some (omega arith),
          div_below w (2 ^ (j - 31)) (2 ^ 32) some (omega arith),
        )

-- the multiplier of the widest shift to the right has 32 to 39 bits
pub widest_bounds : (hz : ℕ) → 100000000 ≤ hz → hz ≤ 10000000000 → (2 ^ 31 ≤ 1000000000 * 2 ^ 35 / hz) × (1000000000 * 2 ^ 35 / hz < 2 ^ 39)
widest_bounds hz slow fast =
    (le-div (2 ^ 31) (1000000000 * 2 ^ 35) hz (omega arith) (omega arith), div_below (1000000000 * 2 ^ 35) hz (2 ^ 39) (omega arith) (omega arith))

-- so a number that is shifted to fill its 32 bits is the multiplier of a scale
pub IsScale-filled : (hz : ℕ) (z : ℤ) → 100000000 ≤ hz → hz ≤ 10000000000
    → z +ℤ pos 3 ≡ pos (32 - count_leading_zeros 64 (1000000000 * 2 ^ 35 / hz))
    → IsScale hz (1000000000 * 2 ^ 35 / hz / 2 ^ (32 - count_leading_zeros 64 (1000000000 * 2 ^ 35 / hz))) z
IsScale-filled hz z slow fast e =
    let bounds = widest_bounds hz slow fast in
    let full = filled (1000000000 * 2 ^ 35 / hz) bounds.0 bounds.1 in
    record {
      value = mul_at-halved hz (32 - count_leading_zeros 64 (1000000000 * 2 ^ 35 / hz)) z e;
      least = full.2;
      most = full.3;
    }

-- a shift is that of a scale where the multiplier fits it
scale_left : (hz n : ℕ) → 0 < hz → 2 ^ 31 * (hz * 2 ^ n) ≤ 1000000000 * 2 ^ 32 → 1000000000 * 2 ^ 32 < 2 ^ 32 * (hz * 2 ^ n)
    → IsScale hz (mul_at hz (pos n)) (pos n)
scale_left hz n runs low high =
    let full : hz * 1 ≤ hz * 2 ^ n = mul-le-mul_left hz (pow_pos n) in
    let positive : 0 < hz * 2 ^ n = omega arith in
    record {
      value = refl;
      least = le-div (2 ^ 31) (1000000000 * 2 ^ 32) (hz * 2 ^ n) positive low;
      most = div_below (1000000000 * 2 ^ 32) (hz * 2 ^ n) (2 ^ 32) positive high;
    }

scale_right : (hz n : ℕ) → 0 < hz → 2 ^ 31 * hz ≤ 1000000000 * 2 ^ (32 + (n + 1)) → 1000000000 * 2 ^ (32 + (n + 1)) < 2 ^ 32 * hz
    → IsScale hz (mul_at hz (negsuc n)) (negsuc n)
scale_right hz n runs low high = record {
  value = refl;
  least = le-div (2 ^ 31) (1000000000 * 2 ^ (32 + (n + 1))) hz runs low;
  most = div_below (1000000000 * 2 ^ (32 + (n + 1))) hz (2 ^ 32) runs high;
}

-- a shift by a test of the rate is one of two
either : (hz limit : ℕ) (y z : ℤ) → (hz ≤ limit → IsScale hz (mul_at hz y) y) → (limit < hz → IsScale hz (mul_at hz z) z)
    → IsScale hz (mul_at hz (cond (leb hz limit) y z)) (cond (leb hz limit) y z)
either hz limit y z low high = elim (cases_lt limit hz) [
  | inl above ↦ rw (lt-leb hz limit above) (high above)
  | inr below ↦ rw (le-leb hz limit below) (low below)
]

-- the table of shifts gives a scale of each rate in range
pub IsScale-mul_for : (hz : ℕ) → 100000000 ≤ hz → hz ≤ 10000000000 → IsScale hz (mul_for hz) (shift_for hz)
unfolding mul_for shift_for
IsScale-mul_for hz slow fast =
    either hz 125000000 _ _ (λ h. scale_left hz 4 (omega arith) (omega arith) (omega arith)) (λ a.
    either hz 250000000 _ _ (λ h. scale_left hz 3 (omega arith) (omega arith) (omega arith)) (λ b.
    either hz 500000000 _ _ (λ h. scale_left hz 2 (omega arith) (omega arith) (omega arith)) (λ c.
    either hz 1000000000 _ _ (λ h. scale_left hz 1 (omega arith) (omega arith) (omega arith)) (λ d.
    either hz 2000000000 _ _ (λ h. scale_left hz 0 (omega arith) (omega arith) (omega arith)) (λ e.
    either hz 4000000000 _ _ (λ h. scale_right hz 0 (omega arith) (omega arith) (omega arith)) (λ f.
    either hz 8000000000 _ _ (λ h. scale_right hz 1 (omega arith) (omega arith) (omega arith)) (λ g.
    scale_right hz 2 (omega arith) (omega arith) (omega arith))))))))
