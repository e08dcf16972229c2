-- The time that an anchor gives to a count of the host's counter.
use Rattle.std.specs.Prelude.{
  ◌≡◌,
  ℕ,
  ◌+◌,
  ◌-◌,
  ◌*◌,
  ◌/◌,
  ◌<◌,
  ◌≤◌,
  nat_lt,
  nat_le,
  Option,
  Some,
  None,
  if◌then◌else◌,
}
use Rattle.clk_units.specs.declared.ranges.TheConstants.{RANGE_NS}
use Rattle.host_counter.specs.declared.Anchor.{Anchor}
use Rattle.host_counter.specs.declared.TimeFault.{TimeFault}
use Rattle.host_counter.specs.declared.TimeFault.TheVariants.{BeforeStart, OutOfRange}

-- the nanoseconds at count h, by the counter's rate (Linux, KVM timekeeping), rounded down (own)
unfoldable pub time_at : Anchor → ℕ → ℕ
time_at anchor h = anchor.base_ns + (h - anchor.start) * 1000000 / anchor.khz

-- the same counter's clock, set anew at count h to a time
abbrev pub set_anew : Anchor → ℕ → ℕ → Anchor
set_anew anchor h ns = record anchor { start = h; base_ns = ns }

-- ns is the time at count h, and in range
pub record IsTimeAt (anchor : Anchor) (h ns : ℕ) : Type 0 where
  pub started : anchor.start ≤ h
  pub value : ns ≡ time_at anchor h
  pub in_range : ns < RANGE_NS

-- why a count has no time, if it has none: it is before the anchor's, or its time is `RANGE_NS` or
-- more
abbrev pub time_fault : Anchor → ℕ → Option TimeFault
time_fault anchor h =
    if nat_lt h anchor.start then Some (BeforeStart anchor.start)
    else (if nat_le RANGE_NS (time_at anchor h) then Some (OutOfRange (time_at anchor h)) else None)

-- a count has a time: it isn't before the anchor's, and its time is below `RANGE_NS`
pub record HasTime (anchor : Anchor) (h : ℕ) : Type 0 where
  pub started : anchor.start ≤ h
  pub range : time_at anchor h < RANGE_NS

-- a time is another one, or the nanosecond before it
pub record IsJustBehind (ns other : ℕ) : Type 0 where
  pub not_ahead : ns ≤ other
  pub near : other ≤ ns + 1
