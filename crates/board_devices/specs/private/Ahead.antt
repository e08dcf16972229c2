-- From when on the lines are up in a stretch, by what the devices are before it; private contracts
-- alone cite this.
use Rattle.std.specs.Prelude.{
  ◌≡◌,
  ℕ,
  zero,
  suc,
  ◌+◌,
  ◌-◌,
  ◌≤◌,
  Bool,
  ◌||◌,
  not,
  nat_lt,
  if◌then◌else◌,
  Option,
  Some,
  None,
  List,
  [],
  ◌∷◌,
}
use Rattle.pit_readback.specs.declared.TheConstants.{PIT_HZ}
use Rattle.rtc_registers.specs.declared.TheConstants.{RTC_HZ}
use Rattle.hpet_registers.specs.declared.hpet.TheConstants.{HPET_HZ}
use Rattle.clk_units.specs.Bits.{bit}
use Rattle.clk_units.specs.Pulses.{pulses_from}
use Rattle.clk_units.specs.Events.{first_more, first_at}
use Rattle.pit_counter.specs.Table.{rises_in}
use Rattle.pit_readback.specs.Pit.{counter_of}
use Rattle.rtc_cycle.specs.Divider.{ticks_in, updates_in}
use Rattle.rtc_registers.specs.Registers.{divider_of, af_of, aie_of, uf_of, uie_of}
use Rattle.rtc_registers.specs.Pulses.{alarms_in}
use Rattle.hpet_comparator.specs.declared.stretch.Matches.{Matches}
use Rattle.hpet_comparator.specs.Parts.{is_level, is_enabled}
use Rattle.hpet_registers.specs.declared.parts.HpetParts.{HpetParts}
use Rattle.hpet_registers.specs.Parts.{timer_at, is_legacy}
use Rattle.hpet_registers.specs.Outputs.{is_message}
use Rattle.hpet_registers.specs.Stretch.{matches_of}
use Rattle.tick_policy.specs.Line.{is_waiting}
use Rattle.tick_policy.specs.Stretch.{up_from}
use Rattle.board_devices.specs.declared.parts.DeviceParts.{DeviceParts}
use Rattle.board_devices.specs.declared.stretch.Span.{Span}
use Rattle.board_devices.specs.Places.{line_at}
use Rattle.board_devices.specs.Nanosecond.{counts_rtc}
use Rattle.board_devices.specs.private.Stretch.{either_from, flag_from, output_up, slots_from}

-- the step, counted from 1, that brings the first event of n steps, or none
abbrev pub first_of : (ℕ → ℕ) → ℕ → Option ℕ
first_of count zero = None
first_of count (suc n) =
    first_more (first_of count n) n (nat_lt (count n) (count (suc n)))

-- the pulses of a device in a stretch
abbrev pub pulses_of : ℕ → Span → ℕ
pulses_of hz s = pulses_from hz s.from (s.to - s.from)

-- the nanosecond of its first event there
abbrev pub first_in : ℕ → (ℕ → ℕ) → Span → Option ℕ
first_in hz count s = first_at hz s.from (first_of count (pulses_of hz s))

-- from when on the tick line of the 8254 is up, where legacy replacement doesn't leave it out
abbrev pub pit_up : Span → DeviceParts → Option ℕ
pit_up s d =
    up_from s.from s.point s.to (first_in PIT_HZ (rises_in (counter_of d.pit 0)) s) (line_at 0 d)

-- .. that of the MC146818
abbrev pub clock_line_up : Span → DeviceParts → Option ℕ
clock_line_up s d =
    if counts_rtc d
    then up_from s.from s.point s.to (first_in RTC_HZ (ticks_in (divider_of d.rtc)) s) (line_at 1 d)
    else (if (line_at 1 d).up then Some s.from else None)

-- .. and its IRQF
abbrev pub irq_up : Span → DeviceParts → Option ℕ
irq_up s d = either_from (clock_line_up s d) (either_from
    (flag_from (aie_of d.rtc) (af_of d.rtc) s.from (first_in RTC_HZ (alarms_in d.rtc) s))
    (flag_from (uie_of d.rtc) (uf_of d.rtc) s.from
    (first_in RTC_HZ (updates_in (divider_of d.rtc)) s)))

-- the matches of timer k in n pulses
abbrev pub matches_by : ℕ → HpetParts → ℕ → Matches
matches_by k h n = record { count = matches_of k h n; first = first_of (matches_of k h) n }

-- from when on the output of timer k is up
abbrev pub timer_up : Span → DeviceParts → ℕ → Option ℕ
timer_up s d k = output_up s k d.hpet (bit k d.hpet.status)
    (matches_by k d.hpet (pulses_of HPET_HZ s)) (line_at (k + 2) d)

-- .. lines 0 and 8 by the 8254 and the MC146818, where legacy replacement doesn't hide them
abbrev pub front_up : Span → DeviceParts → List (Option ℕ)
front_up s d = (if is_legacy d.hpet then None else pit_up s d)
    ∷ (if is_legacy d.hpet then None else irq_up s d) ∷ None ∷ None ∷ None ∷ None ∷ []

-- .. and the six lines by all devices
abbrev pub lines_up : Span → DeviceParts → List (Option ℕ)
lines_up s d = slots_from d.hpet.timers d.hpet (timer_up s d) (front_up s d)

-- up by nanosecond t, or never
abbrev pub IsSettled : ℕ → Option ℕ → Type 0
IsSettled t u = (at : ℕ) → u ≡ Some at → at ≤ t

-- the output of timer k stays as it is while nobody accesses the devices: it is up, or nothing brings
-- it up
abbrev pub is_settled : ℕ → DeviceParts → Bool
is_settled k d =
    if is_level (timer_at k d.hpet)
    then not (is_enabled (timer_at k d.hpet)) || bit k d.hpet.status
    else (line_at (k + 2) d).up
    || (if is_enabled (timer_at k d.hpet) then is_message k d.hpet
    else not (is_waiting (line_at (k + 2) d)))
