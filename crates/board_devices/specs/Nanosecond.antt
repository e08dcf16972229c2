-- One nanosecond of the devices: the pulses that fall in it, in the order 8254, MC146818, HPET, and
-- then the catch-up point, where it is one. Sections are those of the Intel 8254, the Motorola
-- MC146818 and the IA-PC HPET 1.0a sheets.
use Rattle.std.specs.Prelude.{ℕ, zero, suc, ◌%◌, Bool, true, false, ◌&&◌, ◌==◌, not, if◌then◌else◌}
use Rattle.clk_units.specs.Pulses.{falls_at}
use Rattle.pit_counter.specs.Table.{rises_next}
use Rattle.pit_readback.specs.declared.TheConstants.{PIT_HZ}
use Rattle.pit_readback.specs.Pit.{counter_of, pit_pulsed}
use Rattle.rtc_cycle.specs.Divider.{ticks_next}
use Rattle.rtc_registers.specs.declared.TheConstants.{RTC_HZ}
use Rattle.rtc_registers.specs.Registers.{divider_of, pie_of}
use Rattle.rtc_registers.specs.Access.{flagged}
use Rattle.rtc_registers.specs.Pulses.{rtc_pulsed}
use Rattle.hpet_registers.specs.declared.hpet.TheConstants.{HPET_HZ}
use Rattle.hpet_registers.specs.Parts.{is_legacy}
use Rattle.hpet_registers.specs.Stretch.{hpet_pulsed, tick_next}
use Rattle.tick_policy.specs.Line.{is_waiting}
use Rattle.tick_policy.specs.Stretch.{caught_up_where}
use Rattle.board_devices.specs.declared.parts.DeviceParts.{DeviceParts}
use Rattle.board_devices.specs.Places.{each, ticked_at, line_at}

-- the ticks of the MC146818, its periodic events, are counted while PIE is 1 and LEG_RT is 0 (own)
abbrev pub counts_rtc : DeviceParts → Bool
counts_rtc d = pie_of d.rtc && not (is_legacy d.hpet)

-- at which place the next pulse of the 8254 makes a tick due: its own, where OUT of counter 0
-- rises, while LEG_RT is 0 (8254, modes 0 to 5; HPET 2.3.5, LEG_RT_CNF)
abbrev pub pit_due : DeviceParts → ℕ → Bool
pit_due d zero = rises_next (counter_of d.pit 0) && not (is_legacy d.hpet)
pit_due d (suc k) = false

-- that of the MC146818: its own, at a periodic event that is counted (MC146818, "Periodic interrupt
-- selection")
abbrev pub rtc_due : DeviceParts → ℕ → Bool
rtc_due d (suc zero) = ticks_next (divider_of d.rtc) && counts_rtc d
rtc_due d _ = false

-- that of the HPET: timer k's, at a match of an enabled timer of edge type (HPET 2.3.8)
abbrev pub hpet_due : DeviceParts → ℕ → Bool
hpet_due d (suc (suc k)) = tick_next k d.hpet
hpet_due d _ = false

-- at which places a catch-up point is seen: at that of the MC146818 only while its ticks are
-- counted (own)
abbrev pub sees_point : DeviceParts → ℕ → Bool
sees_point d (suc zero) = counts_rtc d
sees_point d _ = true

-- the pulse of the 8254, where one falls at t: all counters take it, and a tick may be due
unfoldable pub pit_pulse : ℕ → DeviceParts → DeviceParts
pit_pulse t d = record d {
  pit = if falls_at PIT_HZ t then pit_pulsed d.pit else d.pit;
  ticks = ticked_at (λ k. falls_at PIT_HZ t && pit_due d k) d.ticks;
}

-- the pulse of the MC146818, likewise; a periodic event sets PF, counted or not
unfoldable pub rtc_pulse : ℕ → DeviceParts → DeviceParts
rtc_pulse t d = record d {
  rtc = if falls_at RTC_HZ t then rtc_pulsed d.rtc else d.rtc;
  ticks = ticked_at (λ k. falls_at RTC_HZ t && rtc_due d k) d.ticks;
}

-- the pulse of the HPET, likewise; a match of a timer of level type sets its status bit
unfoldable pub hpet_pulse : ℕ → DeviceParts → DeviceParts
hpet_pulse t d = record d {
  hpet = if falls_at HPET_HZ t then hpet_pulsed d.hpet else d.hpet;
  ticks = ticked_at (λ k. falls_at HPET_HZ t && hpet_due d k) d.ticks;
}

-- the catch-up point, where slew_ns divides t: a line that is down shows a tick that waits, and
-- that of the MC146818, going up, sets PF (own)
unfoldable pub catch_up_point : ℕ → DeviceParts → DeviceParts
catch_up_point t d = record d {
  rtc =
      if (t % d.slew_ns == 0) && (counts_rtc d && is_waiting (line_at 1 d)) then flagged d.rtc
      else d.rtc;
  ticks = each (λ k l. caught_up_where ((t % d.slew_ns == 0) && sees_point d k) l) 0 d.ticks;
}

-- the nanosecond t
unfoldable pub at_nanosecond : ℕ → DeviceParts → DeviceParts
at_nanosecond t d = catch_up_point t (hpet_pulse t (rtc_pulse t (pit_pulse t d)))
