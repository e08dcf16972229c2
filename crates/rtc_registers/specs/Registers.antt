-- The registers of the MC146818 and what their bits mean. Sections are those of the Motorola data
-- sheet; 0Ah to 0Dh are registers A to D, and a bit is named by its place.
use Rattle.std.specs.Prelude.{ℕ, ◌+◌, ◌/◌, ◌%◌, Bool, ◌&&◌, ◌||◌, List, slice_index, slice_set}
use Rattle.clk_units.specs.Bits.{bit, bit_value}
use Rattle.rtc_calendar.specs.declared.TimeBytes.{TimeBytes}
use Rattle.rtc_calendar.specs.declared.Form.{Form}
use Rattle.rtc_calendar.specs.declared.Alarm.{Alarm}
use Rattle.rtc_cycle.specs.declared.parts.DividerParts.{DividerParts}
use Rattle.rtc_registers.specs.declared.parts.RtcParts.{RtcParts}

-- register A, which keeps the divider's settings; its UIP is the cycle's
abbrev pub register_a : RtcParts → ℕ
register_a r = slice_index r.bytes 0x0a

-- register B: SET, the interrupt enables, and the form of the time
abbrev pub register_b : RtcParts → ℕ
register_b r = slice_index r.bytes 0x0b

-- register C, which keeps the flags; its IRQF follows from them
abbrev pub register_c : RtcParts → ℕ
register_c r = slice_index r.bytes 0x0c

-- register D: VRT
abbrev pub register_d : RtcParts → ℕ
register_d r = slice_index r.bytes 0x0d

-- the bits of register B ("Register B"): SET holds updates back, and the others let a flag
-- interrupt; SQWE and DSE are stored, and do nothing (own)
abbrev pub set_of : RtcParts → Bool
set_of r = bit 7 (register_b r)

-- PIE: the periodic flag interrupts
abbrev pub pie_of : RtcParts → Bool
pie_of r = bit 6 (register_b r)

-- AIE: the alarm flag interrupts
abbrev pub aie_of : RtcParts → Bool
aie_of r = bit 5 (register_b r)

-- UIE: the update-ended flag interrupts
abbrev pub uie_of : RtcParts → Bool
uie_of r = bit 4 (register_b r)

-- the flags of register C ("Register C"): periodic, alarm and update-ended
abbrev pub pf_of : RtcParts → Bool
pf_of r = bit 6 (register_c r)

-- AF: an alarm came
abbrev pub af_of : RtcParts → Bool
af_of r = bit 5 (register_c r)

-- UF: an update ended
abbrev pub uf_of : RtcParts → Bool
uf_of r = bit 4 (register_c r)

-- IRQF: a flag is up whose interrupt is let through ("Register C", "IRQF")
abbrev pub irqf_of : RtcParts → Bool
irqf_of r = (pf_of r && pie_of r) || ((af_of r && aie_of r) || (uf_of r && uie_of r))

-- the byte of register C with these flags, without IRQF
abbrev pub flags_byte : Bool → Bool → Bool → ℕ
flags_byte pf af uf = bit_value pf 6 + (bit_value af 5 + bit_value uf 4)

-- the divider's fields: DV and RS of register A, SET of register B
abbrev pub divider_of : RtcParts → DividerParts
divider_of r = record {
  d = r.d;
  cycle = r.cycle;
  dv = register_a r / 16 % 8;
  rs = register_a r % 16;
  set = set_of r;
}

-- the form of the time bytes: DM and 24/12 of register B
abbrev pub form_of : RtcParts → Form
form_of r = record { binary = bit 2 (register_b r); hours24 = bit 1 (register_b r) }

-- the time and the alarm ("Time, calendar, and alarm locations")
abbrev pub time_in : List ℕ → TimeBytes
time_in bytes = record {
  sec = slice_index bytes 0;
  min = slice_index bytes 2;
  hour = slice_index bytes 4;
  wday = slice_index bytes 6;
  date = slice_index bytes 7;
  month = slice_index bytes 8;
  year = slice_index bytes 9;
}

-- the time bytes of a clock
abbrev pub time_of : RtcParts → TimeBytes
time_of r = time_in r.bytes

-- the alarm bytes of a clock
abbrev pub alarm_of : RtcParts → Alarm
alarm_of r = record {
  sec = slice_index r.bytes 1;
  min = slice_index r.bytes 3;
  hour = slice_index r.bytes 5;
}

-- the first three time bytes are written, and then the other four
abbrev pub with_clock : TimeBytes → List ℕ → List ℕ
with_clock t bytes = slice_set (slice_set (slice_set bytes 0 t.sec) 2 t.min) 4 t.hour

-- the weekday, date, month and year are written
abbrev pub with_date : TimeBytes → List ℕ → List ℕ
with_date t bytes =
    slice_set (slice_set (slice_set (slice_set bytes 6 t.wday) 7 t.date) 8 t.month) 9 t.year

-- the time bytes are written
unfoldable pub with_time : TimeBytes → List ℕ → List ℕ
with_time t bytes = with_date t (with_clock t bytes)
