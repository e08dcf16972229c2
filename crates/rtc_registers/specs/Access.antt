-- What a read or a write of the MC146818 does. Sections are those of the Motorola data sheet.
use Rattle.std.specs.Prelude.{ℕ, ◌+◌, ◌-◌, ◌/◌, ◌%◌, true, not, ◌&&◌, ◌||◌, ◌==◌, if◌then◌else◌}
use Rattle.std.specs.Prelude.{slice_index, slice_set}
use Rattle.clk_units.specs.Bits.{bit, bit_value}
use Rattle.rtc_cycle.specs.declared.parts.DividerParts.{DividerParts}
use Rattle.rtc_cycle.specs.Divider.{uip_of, with_dv, with_rate, with_set}
use Rattle.rtc_registers.specs.declared.parts.RtcParts.{RtcParts}
use Rattle.rtc_registers.specs.Registers.{register_a, register_c, set_of, af_of, uf_of, irqf_of}
use Rattle.rtc_registers.specs.Registers.{flags_byte, divider_of}

-- the index is written: bit 7 is ignored
abbrev pub index_written : ℕ → RtcParts → RtcParts
index_written byte r = record r { index = byte % 0x80 }

-- the byte read at the index: A has UIP, C has IRQF; 0Eh to 7Fh are plain memory
-- ("RAM" to 3Fh; from 40h on own)
unfoldable pub rtc_read : RtcParts → ℕ
rtc_read r =
    if r.index == 0x0a then register_a r + bit_value (uip_of (divider_of r)) 7
    else (if r.index == 0x0c then register_c r + bit_value (irqf_of r) 7
    else slice_index r.bytes r.index)

-- a read of register C clears its flags ("Register C")
unfoldable pub after_rtc_read : RtcParts → RtcParts
after_rtc_read r = record r {
  bytes = if r.index == 0x0c then slice_set r.bytes 0x0c 0 else r.bytes;
}

-- register B as a write stores it: SET going from 0 to 1 clears UIE ("Register B", "SET")
abbrev pub b_stored : ℕ → RtcParts → ℕ
b_stored byte r = if bit 7 byte && (not (set_of r) && bit 4 byte) then byte - 0x10 else byte

-- what a write at the index stores; bit 7 of register A, UIP, is read only
abbrev pub stored : ℕ → RtcParts → ℕ
stored byte r =
    if r.index == 0x0a then byte % 0x80
    else (if r.index == 0x0b then b_stored byte r else byte)

-- what a write does to the divider: one of A writes DV and RS, one of B writes SET
abbrev pub divider_written : ℕ → RtcParts → DividerParts
divider_written byte r =
    if r.index == 0x0a then with_rate (byte % 16) (with_dv (byte / 16 % 8) (divider_of r))
    else (if r.index == 0x0b then with_set (bit 7 byte) (divider_of r) else divider_of r)

-- the byte is written at the index; C and D are read only
unfoldable pub rtc_written : ℕ → RtcParts → RtcParts
rtc_written byte r = record r {
  bytes = if r.index == 0x0c || r.index == 0x0d then r.bytes
      else slice_set r.bytes r.index (stored byte r);
  d = (divider_written byte r).d;
  cycle = (divider_written byte r).cycle;
}

-- PF is set, for a periodic event that is delivered late (own)
unfoldable pub flagged : RtcParts → RtcParts
flagged r = record r { bytes = slice_set r.bytes 0x0c (flags_byte true (af_of r) (uf_of r)) }
