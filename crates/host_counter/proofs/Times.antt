-- Lemmas on the time that an anchor gives.
use Rattle.std.proofs.Common.{◌≡◌, ℕ, ◌+◌, ◌-◌, ◌*◌, ◌/◌, ◌%◌, ◌<◌, ◌≤◌, max, Bool, true, false, cond, ltb, leb, Some, None, refl, sym, ap, ◌∙◌, inl, inr, arith}
use Rattle.std.proofs.Math.Nat.{div-mul-le_self, zero-div, lt-div-mul-add, div-lt_iff_lt-mul, add-mul-div_right}
use Rattle.std.proofs.lemmas.Nat.{le-div, div-add-mod'}
use Rattle.std.proofs.lemmas.Bool.{cases_lt, ltb-false, leb-false, le-ltb, lt-leb}
use Rattle.clk_units.specs.declared.ranges.TheConstants.{RANGE_NS}
use Rattle.host_counter.specs.declared.TimeFault.TheVariants.{BeforeStart, OutOfRange}
use Rattle.host_counter.specs.declared.Anchor.{Anchor}
use Rattle.host_counter.specs.Time.{time_at, time_fault, HasTime, set_anew, IsTimeAt, IsJustBehind}

-- time never falls as the counter grows
pub time_at-mono : (anchor : Anchor) (earlier h : ℕ) → 0 < anchor.khz → earlier ≤ h → time_at anchor earlier ≤ time_at anchor h
unfolding time_at
time_at-mono anchor earlier h runs before =
    grown anchor.base_ns ((earlier - anchor.start) * 1000000) ((h - anchor.start) * 1000000) anchor.khz runs (omega arith)
  where
    grown : (base a b k : ℕ) → 0 < k → a ≤ b → base + a / k ≤ base + b / k
    grown base a b k some less =
        let whole : a / k * k ≤ a = div-mul-le_self a k in
        let quotient : a / k ≤ b / k = le-div (a / k) b k some (omega arith) in
        omega arith

-- at its own count an anchor gives its own time
pub time_at-start : (anchor : Anchor) → time_at anchor anchor.start ≡ anchor.base_ns
unfolding time_at
time_at-start anchor =
    let none : (anchor.start - anchor.start) * 1000000 ≡ 0 = omega arith in
    ap (λ (n : ℕ). anchor.base_ns + n / anchor.khz) none ∙ ap (λ (n : ℕ). anchor.base_ns + n) (zero-div anchor.khz) ∙ omega arith

-- the time at the greater of two counts is the greater time
pub time_at-max : (anchor : Anchor) (g h : ℕ) → 0 < anchor.khz → time_at anchor (max g h) ≡ max (time_at anchor g) (time_at anchor h)
time_at-max anchor g h runs = elim (cases_lt g h) [
  | inl less ↦
      let e : max g h ≡ h = omega arith in
      let mono : time_at anchor g ≤ time_at anchor h = time_at-mono anchor g h runs (omega arith) in
      rw e (omega arith)
  | inr other ↦
      let e : max g h ≡ g = omega arith in
      let mono : time_at anchor h ≤ time_at anchor g = time_at-mono anchor h g runs (omega arith) in
      rw e (omega arith)
]

-- a quotient of a sum is the sum of the quotients, or one more
div-sum : (a b k : ℕ) → 0 < k → IsJustBehind (a / k + b / k) ((a + b) / k)
div-sum a b k some =
    let low_a : a / k * k ≤ a = div-mul-le_self a k in
    let low_b : b / k * k ≤ b = div-mul-le_self b k in
    let high_a : a < a / k * k + k = lt-div-mul-add some in
    let high_b : b < b / k * k + k = lt-div-mul-add some in
    let less : (a + b) / k < a / k + b / k + 2 = (div-lt_iff_lt-mul some).1 (omega arith) in
    record { not_ahead = le-div (a / k + b / k) (a + b) k some (omega arith); near = omega arith }

-- a clock that is set anew goes on
pub set_anew-goes_on : (anchor : Anchor) (h ns later : ℕ) → 0 < anchor.khz → IsTimeAt anchor h ns → h ≤ later
    → IsJustBehind (time_at (set_anew anchor h ns) later) (time_at anchor later)
unfolding time_at
set_anew-goes_on anchor h ns later runs time behind =
    let parts : (later - anchor.start) * 1000000 ≡ (h - anchor.start) * 1000000 + (later - h) * 1000000 = omega (arith, time.started) in
    let sum : IsJustBehind ((h - anchor.start) * 1000000 / anchor.khz + (later - h) * 1000000 / anchor.khz)
    (((h - anchor.start) * 1000000 + (later - h) * 1000000) / anchor.khz) =
    div-sum ((h - anchor.start) * 1000000) ((later - h) * 1000000) anchor.khz runs in
    let whole : (later - anchor.start) * 1000000 / anchor.khz ≡ ((h - anchor.start) * 1000000 + (later - h) * 1000000) / anchor.khz =
    ap (λ (n : ℕ). n / anchor.khz) parts in
    record {
      not_ahead = omega (arith, time.value, whole, sum.not_ahead);
      near = omega (arith, time.value, whole, sum.near);
    }

-- by whole milliseconds and the rest
pub since-split : (counts khz : ℕ) → 0 < khz → counts / khz * 1000000 + counts % khz * 1000000 / khz ≡ counts * 1000000 / khz
since-split counts khz runs =
    let product : counts * 1000000 ≡ counts % khz * 1000000 + counts / khz * 1000000 * khz =
    sym (grouped (counts / khz) (counts % khz) counts khz (div-add-mod' counts khz)) in
    ◌∙◌ (omega arith) (sym (ap (λ (x : ℕ). x / khz) product ∙ add-mul-div_right (counts % khz * 1000000) (counts / khz * 1000000) runs))
  where
    grouped : (q r n k : ℕ) → q * k + r ≡ n → r * 1000000 + q * 1000000 * k ≡ n * 1000000
    grouped q r n k e = rw (← e) (omega arith)

-- the time at a count, by whole milliseconds and the rest
pub time_at-split : (anchor : Anchor) (h : ℕ) → 0 < anchor.khz
    → time_at anchor h ≡ anchor.base_ns + ((h - anchor.start) / anchor.khz * 1000000 + (h - anchor.start) % anchor.khz * 1000000 / anchor.khz)
unfolding time_at
time_at-split anchor h runs = ap (λ (n : ℕ). anchor.base_ns + n) (sym (since-split (h - anchor.start) anchor.khz runs))

-- a count without a fault has a time
pub time_of-no_fault : (anchor : Anchor) (h : ℕ) → time_fault anchor h ≡ None → HasTime anchor h
time_of-no_fault anchor h none = by (ltb h anchor.start) (leb RANGE_NS (time_at anchor h)) refl refl none
  where
    by : (early late : Bool) → ltb h anchor.start ≡ early → leb RANGE_NS (time_at anchor h) ≡ late
        → cond early (Some (BeforeStart anchor.start)) (cond late (Some (OutOfRange (time_at anchor h))) None) ≡ None → HasTime anchor h
    by true late e f n = cc
    by false true e f n = cc
    by false false e f n = record { started = ltb-false h anchor.start e; range = leb-false RANGE_NS (time_at anchor h) f }

-- and the other way round
pub no_fault-of_time : (anchor : Anchor) (h : ℕ) → HasTime anchor h → time_fault anchor h ≡ None
no_fault-of_time anchor h t = rw (le-ltb h anchor.start t.started, lt-leb RANGE_NS (time_at anchor h) t.range) refl
