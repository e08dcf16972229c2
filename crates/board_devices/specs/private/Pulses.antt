-- How many pulses the three devices have in a stretch; private contracts alone cite this.
use Rattle.std.specs.Prelude.{◌≡◌, ◌⊎◌, ℕ, ◌+◌, ◌-◌, ◌*◌, ◌/◌, ◌<◌, ◌≤◌, Bool, true, false, ◌&&◌, not, if◌then◌else◌}
use Rattle.pit_readback.specs.declared.TheConstants.{PIT_HZ}
use Rattle.rtc_registers.specs.declared.TheConstants.{RTC_HZ}
use Rattle.rtc_registers.specs.declared.parts.RtcParts.{RtcParts}
use Rattle.rtc_registers.specs.Registers.{pie_of, aie_of, uie_of, divider_of}
use Rattle.hpet_registers.specs.declared.hpet.TheConstants.{HPET_HZ}
use Rattle.clk_units.specs.Pulses.{pulses_from}
use Rattle.pit_counter.specs.Table.{rises_in}
use Rattle.pit_readback.specs.Pit.{counter_of}
use Rattle.rtc_cycle.specs.Divider.{ticks_in, updates_in}
use Rattle.hpet_comparator.specs.Parts.{is_enabled}
use Rattle.hpet_registers.specs.Parts.{timer_at}
use Rattle.hpet_registers.specs.Stretch.{matches_of}
use Rattle.tick_policy.specs.Line.{is_waiting}
use Rattle.board_devices.specs.Places.{line_at}
use Rattle.board_devices.specs.declared.parts.DeviceParts.{DeviceParts}
use Rattle.board_devices.specs.declared.pulse_counts.PulseCounts.{PulseCounts}

-- the pulses after nanosecond `from` and up to `to`, no more than there are nanoseconds; of the
-- crystal of the MC146818 as many as are said
pub record ArePulsesWith (crystal from to : ℕ) (p : PulseCounts) : Type 0 where
  pub pit : p.pit ≡ pulses_from PIT_HZ from (to - from)
  pub few_pit : p.pit ≤ to - from
  pub rtc : p.rtc ≡ crystal
  pub few_rtc : p.rtc ≤ to - from
  pub hpet : p.hpet ≡ pulses_from HPET_HZ from (to - from)
  pub few_hpet : p.hpet ≤ to - from

-- all of them
abbrev pub ArePulses : ℕ → ℕ → PulseCounts → Type 0
ArePulses from to = ArePulsesWith (pulses_from RTC_HZ from (to - from)) from to

-- nobody hears an MC146818 of which no interrupt is enabled
abbrev pub is_unheard : RtcParts → Bool
is_unheard r = not (pie_of r) && (not (aie_of r) && not (uie_of r))

-- the pulses of its crystal that a run takes, which are none where nobody hears it, and those that
-- are left to whoever runs it
abbrev pub heard_pulses : ℕ → ℕ → RtcParts → ℕ
heard_pulses from to r = if is_unheard r then 0 else pulses_from RTC_HZ from (to - from)

abbrev pub left_pulses : ℕ → ℕ → RtcParts → ℕ
left_pulses from to r = if is_unheard r then pulses_from RTC_HZ from (to - from) else 0

-- those that a run takes
abbrev pub AreHeard : ℕ → ℕ → RtcParts → PulseCounts → Type 0
AreHeard from to r = ArePulsesWith (heard_pulses from to r) from to

-- nothing but rises of OUT 0 comes in a stretch with these pulses: an MC146818 that is heard has no
-- event, no timer that is enabled matches, and no catch-up point finds a line that waits
pub record IsQuietBesidePit (from to : ℕ) (p : PulseCounts) (d : DeviceParts) : Type 0 where
  pub clock : (is_unheard d.rtc ≡ true)
      ⊎ ((ticks_in (divider_of d.rtc) p.rtc ≡ 0) × (updates_in (divider_of d.rtc) p.rtc ≡ 0))
  pub timers : (k : ℕ) → k < d.hpet.timers → is_enabled (timer_at k d.hpet) ≡ true
      → matches_of k d.hpet p.hpet ≡ 0
  pub lines : (to < (from / d.slew_ns + 1) * d.slew_ns)
      ⊎ ((k : ℕ) → k < 10 → is_waiting (line_at k d) ≡ false)

-- .. and OUT 0 doesn't rise
pub record IsQuiet (from to : ℕ) (p : PulseCounts) (d : DeviceParts) : Type 0 where
  pub pit : rises_in (counter_of d.pit 0) p.pit ≡ 0
  pub beside : IsQuietBesidePit from to p d
