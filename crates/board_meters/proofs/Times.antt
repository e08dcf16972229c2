-- Which counts have a time.
use Rattle.std.proofs.Common.{◌≡◌, ℕ, ◌-◌, ◌*◌, ◌<◌, ◌≤◌, max, subst, inl, inr, arith}
use Rattle.std.proofs.Math.Nat.{div-le_of_le-mul}
use Rattle.std.proofs.lemmas.Bool.{cases_lt}
use Rattle.clk_units.specs.declared.ranges.TheConstants.{RANGE_NS}
use Rattle.host_counter.specs.declared.Anchor.{Anchor}
use Rattle.host_counter.proofs.Times.{time_at-start}
use Rattle.host_counter.specs.Time.{time_at, HasTime}

-- a count whose product isn't beyond that of the range has a time
pub product_time : (anchor : Anchor) (h : ℕ) → anchor.start ≤ h → anchor.base_ns < RANGE_NS
    → (h - anchor.start) * 1000000 ≤ anchor.khz * (RANGE_NS - 1 - anchor.base_ns) → HasTime anchor h
unfolding time_at
product_time anchor h started base few =
    record { started = started; range = omega (arith, base, div-le_of_le-mul anchor.khz few) }

-- the greater of two counts has a time
pub greater_time : (anchor : Anchor) (g h : ℕ) → HasTime anchor g → HasTime anchor h → HasTime anchor (max g h)
greater_time anchor g h before now = elim (cases_lt g h) [
  | inl less ↦ subst (HasTime anchor) (let e : h ≡ max g h = omega arith in e) now
  | inr more ↦ subst (HasTime anchor) (let e : g ≡ max g h = omega arith in e) before
]

-- a clock that is set anew at a count has a time there
pub set_time : (khz start base_ns : ℕ) → base_ns < RANGE_NS
    → (let anchor : Anchor = record { khz = khz; start = start; base_ns = base_ns } in HasTime anchor start)
set_time khz start base_ns less =
    let anchor : Anchor = record { khz = khz; start = start; base_ns = base_ns } in
    let same = time_at-start anchor in
    record { started = omega arith; range = omega arith }
