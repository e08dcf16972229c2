-- Pulses within a second, by what a device pulses in a nanosecond.
use Rattle.std.proofs.Common.{◌≡◌, ℕ, ◌+◌, ◌-◌, ◌*◌, ◌/◌, ◌%◌, ◌<◌, ◌≤◌, subst, ap, arith}
use Rattle.clk_units.specs.Pulses.{pulses_by, pulses_from}
use Rattle.clk_units.proofs.Pulses.{pulses_by-split}
use Rattle.pit_readback.specs.declared.TheConstants.{PIT_HZ}
use Rattle.rtc_registers.specs.declared.TheConstants.{RTC_HZ}
use Rattle.hpet_registers.specs.declared.hpet.TheConstants.{HPET_HZ}

pub share_of_pit : (ns : ℕ) → ns < 1000000000 → ns * 22010322987356911 / 18446744073709551616 ≡ pulses_by PIT_HZ ns
unfolding pulses_by
share_of_pit ns less = omega (arith, less)

pub share_of_rtc : (ns : ℕ) → ns < 1000000000 → ns * 604462909807315 / 18446744073709551616 ≡ pulses_by RTC_HZ ns
unfolding pulses_by
share_of_rtc ns less = omega (arith, less)

-- the HPET's main counter pulses at each tenth nanosecond
pub by_tens : (from to : ℕ) → from ≤ to → to / 10 - from / 10 ≡ pulses_from HPET_HZ from (to - from)
unfolding pulses_from pulses_by
by_tens from to order = omega (arith, order)

-- whole seconds and the rest are counted apart
pub by_second : (hz t r : ℕ) → r ≡ t % 1000000000 → t / 1000000000 * hz + pulses_by hz r ≡ pulses_by hz t
unfolding pulses_by
by_second hz t r e = rw e (pulses_by-split hz t)

-- the pulses of the whole seconds before are left out
pub within_second : (hz from to start end : ℕ) → from ≤ to → start ≡ from % 1000000000 → end ≡ start + (to - from) → end < 1000000000
    → pulses_by hz end - pulses_by hz start ≡ pulses_from hz from (to - from)
unfolding pulses_from
within_second hz from to start end order start_is end_is less =
    let place : from + (to - from) ≡ to = omega (arith, order) in
    let same : to / 1000000000 ≡ from / 1000000000 = omega (arith, order, start_is, end_is, less) in
    let rest : end ≡ to % 1000000000 = omega (arith, order, start_is, end_is, less) in
    let first : from / 1000000000 * hz + pulses_by hz start ≡ pulses_by hz from = by_second hz from start start_is in
    let last : from / 1000000000 * hz + pulses_by hz end ≡ pulses_by hz to =
    subst (λ (q : ℕ). q * hz + pulses_by hz end ≡ pulses_by hz to) same (by_second hz to end rest) in
    let ends : pulses_by hz (from + (to - from)) ≡ pulses_by hz to = ap (pulses_by hz) place in
    omega (arith, first, last, ends)
