-- What a reset of the PC does to a board. The parts without a reset pin of their own, and what a
-- board counts, are our choice (own).
use Rattle.std.specs.Prelude.{ℕ, ◌+◌, ◌%◌, map, replicate, slice_set}
use Rattle.clk_units.specs.Bits.{bit, bit_value}
use Rattle.rtc_registers.specs.declared.parts.RtcParts.{RtcParts}
use Rattle.rtc_registers.specs.Registers.{register_b}
use Rattle.board_types.specs.declared.setup.Setup.{Setup}
use Rattle.board_types.specs.declared.parts.BoardParts.{BoardParts}
use Rattle.board_types.specs.declared.parts.ProcessorParts.{ProcessorParts}
use Rattle.board_types.specs.declared.parts.HvParts.{HvParts}
use Rattle.board_types.specs.Setup.{setup_by_default}
use Rattle.board_devices.specs.Places.{line_at}
use Rattle.board_core.specs.Time.{devices_in}
use Rattle.board_core.specs.PowerOn.{board_at_power_on}

-- register B after the MC146818's RESET pin was low ("Signal Descriptions", RESET): PIE, AIE, UIE
-- and SQWE are cleared; SET, DM, 24/12 and DSE stay
abbrev pub register_b_reset : ℕ → ℕ
register_b_reset b = bit_value (bit 7 b) 7 + b % 8

-- the MC146818: register C's flags are cleared too; time, alarm, memory, register A, the index and
-- the divider stay
unfoldable pub rtc_reset : RtcParts → RtcParts
rtc_reset r = record r {
  bytes = slice_set (slice_set r.bytes 0x0b (register_b_reset (register_b r))) 0x0c 0;
}

-- a processor: its page isn't enabled, and its TSC goes on, as at INIT (Intel SDM, volume 3,
-- "Processor State After Reset"; own: a monitor that wants 0 writes MSR 10h)
abbrev pub page_off : ProcessorParts → ProcessorParts
page_off p = record p { number = 0 }

-- Hyper-V's reference page is withdrawn; its version stays
abbrev pub hv_off : HvParts → HvParts
hv_off p = record p { number = 0; scale = 0; offset = 0; tsc_offset = 0 }

-- a setup of the same board: its format, rates, processors and policies
abbrev pub setup_of : BoardParts → Setup
setup_of b = record (setup_by_default b.format) {
  anchor = record { khz = b.anchor.khz; start = 0; base_ns = 0 };
  guest_khz = b.guest_khz;
  cpus = b.cpus;
  pit = (line_at 0 (devices_in b)).policy;
  rtc = (line_at 1 (devices_in b)).policy;
  hpet = (line_at 2 (devices_in b)).policy;
  slew_ns = b.slew_ns;
}

-- the board after a reset: the 8254, which has no reset pin, the HPET (IA-PC HPET, 2.3, "power on
-- state"), the local APICs' timers (Intel SDM, volume 3, "Local APIC State After Power-Up or Reset")
-- and the tick lines are as at power on; rises are counted from 0; time, accesses, the clock's
-- greatest reading and the wall clock stay
unfoldable pub after_reset : BoardParts → BoardParts
after_reset b =
    let fresh : BoardParts = board_at_power_on (setup_of b) in
    record b {
      pit = fresh.pit;
      rtc = rtc_reset b.rtc;
      hpet = fresh.hpet;
      ticks = fresh.ticks;
      processors = map page_off b.processors;
      rises = replicate 6 0;
      apic = fresh.apic;
      apic_ticks = fresh.apic_ticks;
      hv = hv_off b.hv;
    }
