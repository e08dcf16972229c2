-- The fields of the MC146818, and the conditions on them.
use Rattle.std.specs.Prelude.{◌≡◌, ◌≤◌, Bool, false, not, ◌&&◌, ◌||◌, ◌==◌, nat_le, nat_lt}
use Rattle.std.specs.Prelude.{if◌then◌else◌}
use Rattle.std.specs.Prelude.{Option, Some, None, length, replicate, slice_set}
use Rattle.rtc_calendar.specs.declared.TimeBytes.{TimeBytes}
use Rattle.rtc_cycle.specs.Parts.{IsDivider}
use Rattle.rtc_registers.specs.declared.parts.RtcField.{RtcField}
use Rattle.rtc_registers.specs.declared.parts.RtcField.TheVariants.{Index, Bytes, Divider, Cycle}
use Rattle.rtc_registers.specs.declared.parts.RtcParts.{RtcParts}
use Rattle.rtc_registers.specs.Registers.{register_a, register_c, register_d, pf_of, af_of, uf_of}
use Rattle.rtc_registers.specs.Registers.{flags_byte, set_of, divider_of, with_time}

-- what holds of the fields at all times
pub record IsRtc (r : RtcParts) : Type 0 where
  pub places : length r.bytes ≡ 128
  pub index : r.index ≤ 0x7f
  -- UIP is no stored bit
  pub register_a : register_a r ≤ 0x7f
  -- nor is IRQF, and register C has no other bits than the three flags
  pub register_c : register_c r ≡ flags_byte (pf_of r) (af_of r) (uf_of r)
  -- VRT alone ("Register D"): memory and time are always valid (own)
  pub register_d : register_d r ≡ 0x80
  pub divider : IsDivider (divider_of r)

-- the conditions field by field, in the order of a saved state; one over several fields is the
-- last field's
abbrev pub index_valid : RtcParts → Bool
index_valid r = nat_le r.index 0x7f

-- register A without UIP, C without IRQF, D as the data sheet fixes it
abbrev pub bytes_valid : RtcParts → Bool
bytes_valid r =
    nat_le (register_a r) 0x7f
    && (register_c r == flags_byte (pf_of r) (af_of r) (uf_of r) && register_d r == 0x80)

-- the divider's place: below a second's pulses, and fixed while it is held
abbrev pub divider_valid : RtcParts → Bool
divider_valid r = nat_lt r.d 32768 && ((divider_of r).dv == 2 || r.d == 16384)

-- an update cycle is in progress only while the divider runs with SET 0, in its first pulses
abbrev pub cycle_valid : RtcParts → Bool
cycle_valid r = not r.cycle || ((divider_of r).dv == 2 && (not (set_of r) && nat_le r.d 64))

-- the first field whose condition fails
abbrev pub first_fault : RtcParts → Option RtcField
first_fault r =
    if not (index_valid r) then Some Index
    else (if not (bytes_valid r) then Some Bytes
    else (if not (divider_valid r) then Some Divider
    else (if not (cycle_valid r) then Some Cycle else None)))

-- the fields at power on: DV 010, rate 6, BCD and 24 hours, all else 0 but the time (own)
unfoldable pub rtc_at_power_on : TimeBytes → RtcParts
rtc_at_power_on t = record {
  index = 0;
  bytes = slice_set
      (slice_set (slice_set (with_time t (replicate 128 0)) 0x0a 0x26) 0x0b 0x02)
      0x0d 0x80;
  d = 16384;
  cycle = false;
}
