-- What an access publishes, and so which version it raises: a page of the paravirtual clock, the words
-- of the wall clock (Linux, msr.rst), or the reference page of Hyper-V (TLFS).
use Rattle.std.specs.Prelude.{ℕ, ◌+◌, Bool, false, ◌==◌, ◌||◌, if◌then◌else◌, Option, Some, None}
use Rattle.board_types.specs.declared.access.Access.{Access}
use Rattle.board_types.specs.declared.access.Access.TheVariants.{Refresh, MsrWrite}
use Rattle.board_types.specs.declared.access.TheConstants.{
  MSR_TSC,
  MSR_TSC_ADJUST,
  MSR_KVM_SYSTEM_TIME,
  MSR_KVM_WALL_CLOCK,
  MSR_HV_REFERENCE_TSC,
}

-- the page that a write to an MSR publishes: one to the TSC, TSC_ADJUST or MSR_KVM_SYSTEM_TIME_NEW
-- that of the processor (own)
abbrev pub page_of_msr : ℕ → ℕ → Option ℕ
page_of_msr cpu msr =
    if msr == MSR_TSC || msr == MSR_TSC_ADJUST || msr == MSR_KVM_SYSTEM_TIME then Some cpu
    else None

-- the page that an access of a processor publishes, a Refresh that which it names
abbrev pub published_by : ℕ → Access → Option ℕ
published_by cpu (Refresh page) = Some page
published_by cpu (MsrWrite msr v) = page_of_msr cpu msr
published_by cpu _ = None

-- whether an access publishes the words: a write to MSR_KVM_WALL_CLOCK_NEW does
abbrev pub publishes_wall : Access → Bool
publishes_wall (MsrWrite msr v) = msr == MSR_KVM_WALL_CLOCK
publishes_wall _ = false

-- whether an access publishes the reference page: a write to MSR_HV_REFERENCE_TSC does
abbrev pub publishes_hv : Access → Bool
publishes_hv (MsrWrite msr v) = msr == MSR_HV_REFERENCE_TSC
publishes_hv _ = false

-- the version of the words after an access: up by 2 with each publishing
abbrev pub wall_version_after : Access → ℕ → ℕ
wall_version_after a version = if publishes_wall a then version + 2 else version

-- and that of the reference page
abbrev pub hv_version_after : Access → ℕ → ℕ
hv_version_after a version = if publishes_hv a then version + 2 else version
