-- The first count of the host's counter with a time or a later one.
use Rattle.std.proofs.Common.{◌≡◌, ℕ, zero, ◌+◌, ◌-◌, ◌*◌, ◌/◌, ◌<◌, ◌≤◌, arith, inl, inr}
use Rattle.std.proofs.lemmas.Bool.{cases_lt}
use Rattle.std.proofs.Math.Nat.{le-div_iff_mul-le}
use Rattle.host_counter.specs.declared.Anchor.{Anchor}
use Rattle.host_counter.specs.Time.{time_at}
use Rattle.host_counter.proofs.Times.{time_at-mono}
use Rattle.clk_units.specs.Ranges.{IsKhz}
use Rattle.clk_units.specs.declared.ranges.TheConstants.{RANGE_NS}
use Rattle.host_counter.specs.Time.{HasTime}
use Rattle.clockboard_c.specs.Shared.{last_count, AreTimes}
use Rattle.clockboard_c.specs.Timer.{count_of, IsFirstCount}

-- a quotient that is rounded up is the least that reaches
up-reaches : (x : ℕ) → x ≤ (x + 999999) / 1000000 * 1000000
up-reaches x = omega arith

up-least : (x c : ℕ) → c < (x + 999999) / 1000000 → c * 1000000 < x
up-least x c below = omega arith

reaches : (a : Anchor) (t : ℕ) → zero < a.khz → t ≤ time_at a (count_of a t)
unfolding time_at count_of
reaches a t runs =
    let c : ℕ = ((t - a.base_ns) * a.khz + 999999) / 1000000 in
    let enough : (t - a.base_ns) * a.khz ≤ c * 1000000 = up-reaches _ in
    let long : t - a.base_ns ≤ c * 1000000 / a.khz = (le-div_iff_mul-le runs).1 enough in
    let same : a.start + c - a.start ≡ c = omega arith in
    rw same (omega (arith, long))

least : (a : Anchor) (t h : ℕ) → zero < a.khz → a.start ≤ h → h < count_of a t → time_at a h < t
unfolding time_at count_of
least a t h runs started below =
    let few : (h - a.start) * 1000000 < (t - a.base_ns) * a.khz = up-least _ (h - a.start) (omega arith) in
    let q : ℕ = (h - a.start) * 1000000 / a.khz in
    let short : (t - a.base_ns ≤ q → ⊥) = (λ long.
    let back : (t - a.base_ns) * a.khz ≤ (h - a.start) * 1000000 = (le-div_iff_mul-le runs).0 long in omega arith) in
    omega (arith, short)

pub first_count : (a : Anchor) (t : ℕ) → IsKhz a.khz → IsFirstCount a t (count_of a t)
unfolding count_of
first_count a t rate = record {
  started = omega arith;
  reached = reaches a t (omega (arith, rate.slow));
  least = λ h started below. least a t h (omega (arith, rate.slow)) started below;
}

-- the counts up to the last one are those that have a time
pub times-are :
    (a : Anchor) (host last : ℕ) → IsKhz a.khz → HasTime a host → last ≡ last_count a → AreTimes a a.start last
times-are a host last rate timed end h fits =
    let first : IsFirstCount a RANGE_NS (count_of a RANGE_NS) = first_count a RANGE_NS rate in
    let up : (c : ℕ) → count_of a RANGE_NS ≤ c → time_at a c < RANGE_NS → ⊥ =
    λ c past below.
    let mono : time_at a (count_of a RANGE_NS) ≤ time_at a c = time_at-mono a (count_of a RANGE_NS) c (omega (arith, rate.slow)) past in
    omega (arith, mono, below, first.reached) in
    let some : host < count_of a RANGE_NS = elim (cases_lt host (count_of a RANGE_NS)) [
      | inl less ↦ less
      | inr more ↦ absurd (up host more timed.range)
    ] in (
      λ within. record {
        started = within.0;
        range = first.least h (within.0) (omega (arith, within.1, end, some, fits));
      },
      λ has.
          let below : h < count_of a RANGE_NS = elim (cases_lt h (count_of a RANGE_NS)) [
            | inl less ↦ less
            | inr more ↦ absurd (up h more has.range)
          ] in
          (has.started, omega (arith, below, end, fits)),
    )
