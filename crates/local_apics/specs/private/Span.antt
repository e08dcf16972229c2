-- The nanoseconds of one run.
use Rattle.std.specs.Prelude.{◌≡◌, ℕ, ◌-◌, ◌<◌, ◌≤◌}
use Rattle.tsc_scale.specs.Ratio.{ratio_of}
use Rattle.lapic_timer.specs.Deadline.{guest_count_at}
use Rattle.local_apics.specs.declared.span.TscClock.{TscClock}
use Rattle.local_apics.specs.declared.span.Span.{Span}
use Rattle.local_apics.specs.Nanosecond.{AreInRange}

-- the ratio of the guest's rate to the host's
abbrev pub ratio_in : TscClock → ℕ
ratio_in clock = ratio_of clock.guest_khz clock.anchor.khz

-- the nanoseconds of a span
abbrev pub length_of : Span → ℕ
length_of span = span.to - span.from

-- a run of one nanosecond at least, at each of which the clock tells the TSC
pub record IsRun (clock : TscClock) (from to : ℕ) : Type 0 where
  pub order : from < to
  pub ranges : AreInRange clock from to
  pub anchored : clock.anchor.base_ns ≤ from

-- a span is such a run, and knows the guest's count at its last nanosecond
pub record IsSpan (span : Span) : Type 0 where
  pub run : IsRun span.clock span.from span.to
  pub last : span.last ≡ guest_count_at span.clock.anchor (ratio_in span.clock) span.to
