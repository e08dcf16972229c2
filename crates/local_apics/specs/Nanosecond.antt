-- Nanoseconds of all timers, and what they make of the tick lines. Sections are those of Intel's
-- Software Developer's Manual, volume 3; (own) marks the project's own choices.
use Rattle.std.specs.Prelude.{ℕ, zero, suc, ◌+◌, ◌-◌, ◌<◌, ◌≤◌, Bool, ◌&&◌, not, if◌then◌else◌}
use Rattle.std.specs.Prelude.{List, slice_index_or, map}
use Rattle.clk_units.specs.Ranges.{IsKhz}
use Rattle.clk_units.specs.declared.ranges.TheConstants.{RANGE_NS}
use Rattle.board_types.specs.declared.parts.ProcessorParts.{ProcessorParts}
use Rattle.tsc_scale.specs.declared.Tsc.{Tsc}
use Rattle.tsc_scale.specs.Ratio.{ratio_of}
use Rattle.tsc_scale.specs.Tsc.{tsc_at}
use Rattle.tick_policy.specs.Stretch.{ticked_where}
use Rattle.lapic_timer.specs.declared.parts.ApicParts.{ApicParts}
use Rattle.lapic_timer.specs.Parts.{is_masked, is_deadline}
use Rattle.lapic_timer.specs.Stretch.{fires_next, nanosecond, nanoseconds}
use Rattle.lapic_timer.specs.Deadline.{is_reached, looked, count_at}
use Rattle.local_apics.specs.declared.parts.ApicsParts.{ApicsParts}
use Rattle.local_apics.specs.declared.span.TscClock.{TscClock}
use Rattle.local_apics.specs.Places.{each, no_tsc, timer_at}

-- whether a timer fires in a nanosecond at whose end its processor's TSC is `tsc`
abbrev pub fires_with : ℕ → ApicParts → Bool
fires_with tsc p = if is_deadline p then is_reached p.deadline tsc else fires_next p

-- .. and whether that is a tick: a masked fire is none ("Local Vector Table")
abbrev pub tick_with : ℕ → ApicParts → Bool
tick_with tsc p = not (is_masked p) && fires_with tsc p

-- a nanosecond at whose end the TSC of processor k is `tsc k`
unfoldable pub at_nanosecond : (ℕ → ℕ) → ApicsParts → ApicsParts
at_nanosecond tsc a = record {
  timers = each (λ k p. nanosecond (tsc k) p) 0 a.timers;
  lines = each (λ k l. ticked_where (tick_with (tsc k) (timer_at k a)) l) 0 a.lines;
}

-- the n nanoseconds after nanosecond `from`, where the TSC of processor k is `tsc k t` at t
abbrev pub run : (ℕ → ℕ → ℕ) → ℕ → ℕ → ApicsParts → ApicsParts
run tsc from zero a = a
run tsc from (suc n) a = at_nanosecond (λ k. tsc k (from + n + 1)) (run tsc from n a)

-- whether a look at the deadline brings a tick: where it is reached, and the timer isn't masked
abbrev pub looks_due : ℕ → ApicParts → Bool
looks_due tsc p = not (is_masked p) && is_reached p.deadline tsc

-- a look at all deadlines, as at the end of the first part of an access (own)
unfoldable pub looked_all : (ℕ → ℕ) → ApicsParts → ApicsParts
looked_all tsc a = record {
  timers = each (λ k p. looked (tsc k) p) 0 a.timers;
  lines = each (λ k l. ticked_where (looks_due (tsc k) (timer_at k a)) l) 0 a.lines;
}

-- whether a timer that is left alone after nanosecond `from` ticks in nanosecond t
abbrev pub ticks_at : (ℕ → ℕ) → ℕ → ApicParts → ℕ → Bool
ticks_at tsc from p t = tick_with (tsc t) (nanoseconds tsc from (t - from - 1) p)

-- a clock's rates are in range, and so are the nanoseconds from `from` to `to`, which are in order
pub record AreInRange (clock : TscClock) (from to : ℕ) : Type 0 where
  pub order : from ≤ to
  pub in_range : to < RANGE_NS
  pub host : IsKhz clock.anchor.khz
  pub guest : IsKhz clock.guest_khz

-- the numbers of the TSCs of these processors
abbrev pub tscs_of : List ProcessorParts → List Tsc
tscs_of ps = map (λ p. record { offset = p.offset; adjust = p.adjust }) ps

-- the TSC at nanosecond t of a processor with these numbers
abbrev pub tsc_in : TscClock → Tsc → ℕ → ℕ
tsc_in clock tsc t =
    tsc_at tsc (count_at clock.anchor t) (ratio_of clock.guest_khz clock.anchor.khz)

-- the TSC of processor k then, by the numbers of all
abbrev pub tsc_by_time : TscClock → List Tsc → ℕ → ℕ → ℕ
tsc_by_time clock tscs k = tsc_in clock (slice_index_or tscs k no_tsc)
