-- The accesses that a board takes.
use Rattle.std.specs.Prelude.{ℕ, ◌*◌, ◌^◌, Bool, true, ◌&&◌, ◌||◌, ◌==◌, nat_lt, nat_le}
use Rattle.irq_edges.specs.Lines.{is_line}
use Rattle.pit_readback.specs.Ports.{is_pit_port}
use Rattle.hpet_registers.specs.Access.{is_access_width}
use Rattle.board_types.specs.declared.access.TheConstants.{
  MSR_TSC,
  MSR_TSC_ADJUST,
  MSR_KVM_WALL_CLOCK,
  MSR_KVM_SYSTEM_TIME,
  MSR_APIC_LVT,
  MSR_APIC_INITIAL,
  MSR_APIC_CURRENT,
  MSR_APIC_DIVIDE,
  MSR_TSC_DEADLINE,
  MSR_HV_TIME_REF_COUNT,
  MSR_HV_REFERENCE_TSC,
}
use Rattle.board_types.specs.declared.setup.TheConstants.{APIC_FORMAT, HV_FORMAT}
use Rattle.board_types.specs.declared.access.Access.{Access}
use Rattle.board_types.specs.declared.access.Access.TheVariants.{
  PortIn,
  PortOut,
  HpetRead,
  HpetWrite,
  MsrRead,
  MsrWrite,
  Ack,
  Step,
  Refresh,
  Wall,
  CountsOf,
  Next,
  Rose,
  Eoi,
}
use Rattle.board_types.specs.declared.access.TickSource.{TickSource}
use Rattle.board_types.specs.declared.access.TickSource.TheVariants.{Pit, Rtc, Hpet, Apic}
use Rattle.board_types.specs.Setup.{timers_of}

-- the ports of the 8254 (40h to 43h, 61h) and of the MC146818 (70h, 71h)
abbrev pub is_port : ℕ → Bool
is_port p = is_pit_port p || p == 0x70 || p == 0x71

-- the MSRs of a local APIC's timer (Intel SDM, volume 3, "x2APIC Register Address Space")
abbrev pub is_apic_msr : ℕ → Bool
is_apic_msr m =
    m == MSR_APIC_LVT || m == MSR_APIC_INITIAL || m == MSR_APIC_CURRENT || m == MSR_APIC_DIVIDE
    || m == MSR_TSC_DEADLINE

-- the MSRs of Hyper-V's reference time (TLFS, "Reference Counter", "Reference TSC Page MSR")
abbrev pub is_hv_msr : ℕ → Bool
is_hv_msr m = m == MSR_HV_TIME_REF_COUNT || m == MSR_HV_REFERENCE_TSC

-- the MSRs that a format has: those of TSC and of kvmclock, and what later formats bring
abbrev pub is_msr : ℕ → ℕ → Bool
is_msr format m =
    m == MSR_TSC || m == MSR_TSC_ADJUST || m == MSR_KVM_WALL_CLOCK || m == MSR_KVM_SYSTEM_TIME
    || (is_apic_msr m && nat_le APIC_FORMAT format)
    || (is_hv_msr m && nat_le HV_FORMAT format)

-- the HPET's block of 400h bytes, and the widths of an access in bytes
abbrev pub is_hpet_place : ℕ → ℕ → Bool
is_hpet_place offset width = nat_le offset 0x3ff && is_access_width width

-- the sources of ticks that a board of this many processors and this format has
abbrev pub is_source : ℕ → ℕ → TickSource → Bool
is_source cpus format Pit = true
is_source cpus format Rtc = true
is_source cpus format (Hpet timer) = nat_lt timer (timers_of format)
is_source cpus format (Apic cpu) = nat_le APIC_FORMAT format && nat_lt cpu cpus

-- whether a board of this many processors and this format takes an access
abbrev pub is_legal : ℕ → ℕ → Access → Bool
is_legal cpus format (PortIn port) = is_port port
is_legal cpus format (PortOut port byte) = is_port port
is_legal cpus format (HpetRead offset width) = is_hpet_place offset width
is_legal cpus format (HpetWrite offset width value) =
    is_hpet_place offset width && nat_lt value (2 ^ (8 * width))
is_legal cpus format (MsrRead msr) = is_msr format msr
is_legal cpus format (MsrWrite msr value) = is_msr format msr
is_legal cpus format (Ack line) = is_line line
is_legal cpus format Step = true
is_legal cpus format (Refresh page) = nat_lt page cpus
is_legal cpus format Wall = true
is_legal cpus format (CountsOf from) = is_source cpus format from
is_legal cpus format Next = true
is_legal cpus format (Rose line) = nat_le 2 format && is_line line
is_legal cpus format Eoi = nat_le APIC_FORMAT format
