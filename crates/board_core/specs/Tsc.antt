-- The processors, and the MSRs of a guest's clocks (Intel SDM, volume 4; Linux, msr.rst).
use Rattle.std.specs.Prelude.{
  ℕ,
  pos,
  ◌==◌,
  if◌then◌else◌,
  ◌/◌,
  slice_index_or,
}
use Rattle.std.specs.Option.{option_map_or}
use Rattle.host_counter.specs.declared.Anchor.{Anchor}
use Rattle.tsc_scale.specs.declared.Tsc.{Tsc}
use Rattle.tsc_scale.specs.Ratio.{ratio_of}
use Rattle.tsc_scale.specs.Tsc.{tsc_at, moved_by, difference}
use Rattle.lapic_timer.specs.Registers.{register_of, register_read}
use Rattle.local_apics.specs.Places.{no_timer}
use Rattle.board_types.specs.declared.access.TheConstants.{
  MSR_TSC,
  MSR_TSC_ADJUST,
  MSR_KVM_WALL_CLOCK,
  MSR_KVM_SYSTEM_TIME,
  MSR_HV_TIME_REF_COUNT,
  MSR_HV_REFERENCE_TSC,
}
use Rattle.board_core.specs.Time.{now_of}
use Rattle.board_types.specs.declared.parts.BoardParts.{BoardParts}
use Rattle.board_types.specs.declared.parts.ProcessorParts.{ProcessorParts}

-- what the place of a processor that isn't there holds, and each processor at power on
abbrev pub no_processor : ProcessorParts
no_processor = record {
  offset = 0;
  adjust = 0;
  number = 0;
  version = 0;
  tsc_timestamp = 0;
  system_time = 0;
  mul = 0;
  shift = pos 0;
  flags = 0;
}

-- a processor of a board
abbrev pub processor_at : BoardParts → ℕ → ProcessorParts
processor_at b cpu = slice_index_or b.processors cpu no_processor

-- the two numbers of its TSC
abbrev pub tsc_of : ProcessorParts → Tsc
tsc_of p = record { offset = p.offset; adjust = p.adjust }

-- a processor with another TSC
abbrev pub with_tsc : Tsc → ProcessorParts → ProcessorParts
with_tsc tsc p = record p { offset = tsc.offset; adjust = tsc.adjust }

-- its TSC at count h: the count of the access itself, also where that is before the board's
abbrev pub tsc_read : Anchor → ℕ → ℕ → ProcessorParts → ℕ
tsc_read anchor guest_khz h p = tsc_at (tsc_of p) h (ratio_of guest_khz anchor.khz)

-- what a processor reads of an MSR at count h: where it isn't named here, a register of its local APIC's
-- timer, if it is one of them, and else the number of its page
abbrev pub msr_read : BoardParts → ℕ → ℕ → ℕ → ℕ
msr_read b cpu h msr =
    if msr == MSR_TSC then tsc_read b.anchor b.guest_khz h (processor_at b cpu)
    else (if msr == MSR_TSC_ADJUST then (processor_at b cpu).adjust
    else (if msr == MSR_KVM_WALL_CLOCK then b.wall_number
    else (if msr == MSR_HV_TIME_REF_COUNT then now_of b / 100
    else (if msr == MSR_HV_REFERENCE_TSC then b.hv.number
    else option_map_or (λ r. register_read r (slice_index_or b.apic cpu no_timer)) (register_of msr)
    (processor_at b cpu).number))))

-- the TSC after a write of v to an MSR at count h: IA32_TIME_STAMP_COUNTER is set to v and
-- TSC_ADJUST moves with it, or the other way round (Intel SDM, volume 3, "Time-Stamp Counter
-- Adjustment")
abbrev pub tsc_after : Anchor → ℕ → ℕ → ℕ → ℕ → Tsc → Tsc
tsc_after anchor guest_khz h msr v tsc =
    if msr == MSR_TSC then
    moved_by (difference v (tsc_at tsc h (ratio_of guest_khz anchor.khz))) tsc
    else (if msr == MSR_TSC_ADJUST then moved_by (difference v tsc.adjust) tsc else tsc)

-- a processor after it; MSR_KVM_SYSTEM_TIME_NEW keeps v
abbrev pub msr_written : Anchor → ℕ → ℕ → ℕ → ℕ → ProcessorParts → ProcessorParts
msr_written anchor guest_khz h msr v p =
    record (with_tsc (tsc_after anchor guest_khz h msr v (tsc_of p)) p) {
      number = if msr == MSR_KVM_SYSTEM_TIME then v else p.number;
    }
