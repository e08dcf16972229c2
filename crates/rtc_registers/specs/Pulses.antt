-- Pulses of the MC146818's crystal: flags and time bytes change as the divider says
-- ("Update cycle", "Register C").
use Rattle.std.specs.Prelude.{ℕ, zero, suc, Bool, ◌&&◌, ◌||◌, if◌then◌else◌, slice_set}
use Rattle.rtc_calendar.specs.declared.TimeBytes.{TimeBytes}
use Rattle.rtc_calendar.specs.Updates.{updated}
use Rattle.rtc_calendar.specs.Alarms.{alarm_next}
use Rattle.rtc_cycle.specs.declared.parts.DividerParts.{DividerParts}
use Rattle.rtc_cycle.specs.Divider.{pulsed, ticks_next, updates_next}
use Rattle.rtc_registers.specs.declared.parts.RtcParts.{RtcParts}
use Rattle.rtc_registers.specs.Registers.{pf_of, af_of, uf_of, flags_byte, divider_of, form_of}
use Rattle.rtc_registers.specs.Registers.{time_of, alarm_of, with_time}

-- the time bytes after the next pulse: an update changes them at its end
abbrev pub time_next : RtcParts → TimeBytes
time_next r =
    if updates_next (divider_of r) then updated (form_of r) (time_of r) else time_of r

-- whether the next pulse ends an update that the alarm matches ("Alarm")
unfoldable pub alarms_next : RtcParts → Bool
alarms_next r = updates_next (divider_of r) && alarm_next (form_of r) (alarm_of r) (time_of r)

-- register C after the next pulse: each event sets its flag, whether or not it may interrupt
abbrev pub flags_next : RtcParts → ℕ
flags_next r =
    flags_byte
    (pf_of r || ticks_next (divider_of r))
    (af_of r || alarms_next r)
    (uf_of r || updates_next (divider_of r))

-- the divider, the time bytes and register C are replaced
unfoldable pub moved : DividerParts → TimeBytes → ℕ → RtcParts → RtcParts
moved divider time flags r = record r {
  bytes = slice_set (with_time time r.bytes) 0x0c flags;
  d = divider.d;
  cycle = divider.cycle;
}

-- one pulse
unfoldable pub rtc_pulsed : RtcParts → RtcParts
rtc_pulsed r = moved (pulsed (divider_of r)) (time_next r) (flags_next r) r

-- n pulses
abbrev pub rtc_pulsed_times : ℕ → RtcParts → RtcParts
rtc_pulsed_times zero r = r
rtc_pulsed_times (suc n) r = rtc_pulsed (rtc_pulsed_times n r)

-- how many of the updates of n pulses the alarm matches
abbrev pub alarms_in : RtcParts → ℕ → ℕ
alarms_in r zero = 0
alarms_in r (suc n) =
    if alarms_next (rtc_pulsed_times n r) then suc (alarms_in r n) else alarms_in r n
