-- The conditions on what a board holds: those of a saved state, and no others.
use Rattle.std.specs.Prelude.{
  ◌≡◌,
  ℕ,
  ◌+◌,
  ◌*◌,
  ◌%◌,
  ◌<◌,
  ◌≤◌,
  Bool,
  ◌||◌,
  ◌==◌,
  IsTrue,
  if◌then◌else◌,
  List,
  slice_index_or,
}
use Rattle.clk_units.specs.Bits.{bit}
use Rattle.clk_units.specs.Ranges.{IsKhz}
use Rattle.clk_units.specs.declared.ranges.TheConstants.{RANGE_NS}
use Rattle.host_counter.specs.declared.Anchor.{Anchor}
use Rattle.irq_edges.specs.Lines.{line_numbers, level_of}
use Rattle.hv_page.specs.Scale.{tsc_scale}
use Rattle.pvclock_page.specs.Scale.{mul_for, shift_for}
use Rattle.board_types.specs.declared.parts.BoardParts.{BoardParts}
use Rattle.board_types.specs.declared.parts.HvParts.{HvParts}
use Rattle.board_types.specs.declared.parts.ProcessorParts.{ProcessorParts}
use Rattle.board_types.specs.declared.parts.TheConstants.{LAST_VERSION, MOST_ACCESSES}
use Rattle.board_types.specs.declared.setup.TheConstants.{
  SECOND_NS,
  LAST_FORMAT,
  HV_FORMAT,
}
use Rattle.board_types.specs.Setup.{timers_of, has_messages, processors_of}
use Rattle.local_apics.specs.declared.parts.ApicsParts.{ApicsParts}
use Rattle.local_apics.specs.Parts.{AreApicsOf}
use Rattle.local_apics.specs.Places.{line_at as apic_line_at}
use Rattle.board_devices.specs.Places.{line_at}
use Rattle.board_devices.specs.Lines.{levels}
use Rattle.board_devices.specs.Parts.{AreDevices}
use Rattle.board_devices.specs.Rises.{one_if}
use Rattle.board_core.specs.Time.{devices_in, now_of}
use Rattle.host_counter.specs.Time.{HasTime}
use Rattle.board_core.specs.Tsc.{no_processor}
use Rattle.board_core.specs.Apics.{apics_of, apics_in}
use Rattle.board_core.specs.Hv.{no_hv}

-- the format is one that is built, with as many processors as it allows and the timers that it has
pub record IsFormat (format cpus timers : ℕ) : Type 0 where
  pub least : 1 ≤ format
  pub last : format ≤ LAST_FORMAT
  pub least_cpus : 1 ≤ cpus
  pub most_cpus : cpus ≤ processors_of format
  pub has_timers : timers ≡ timers_of format

-- the rates of the host's counter and of the guest's TSC, in kHz
pub record AreRates (anchor : Anchor) (guest_khz : ℕ) : Type 0 where
  pub host : IsKhz anchor.khz
  pub guest : IsKhz guest_khz

-- a version is even, and at most the last one
pub record IsVersion (version : ℕ) : Type 0 where
  pub most : version ≤ LAST_VERSION
  pub even : version % 2 ≡ 0

-- the wall clock: its words' number is 0 before they are published first
pub record IsWall (number version nsec : ℕ) : Type 0 where
  pub words : IsVersion version
  pub unpublished : version ≡ 0 → number ≡ 0
  pub below_second : nsec < SECOND_NS

-- the flags of a published page: a stable TSC, after a move with a stopped guest
abbrev pub flags_valid : ℕ → Bool
flags_valid flags = flags == 1 || flags == 3

-- a processor: all is 0 before its page is published first; then the page has the guest's scale
pub record IsProcessor (guest_khz : ℕ) (p : ProcessorParts) : Type 0 where
  pub version : IsVersion p.version
  pub time : p.system_time < RANGE_NS
  pub unpublished : p.version ≡ 0 → p ≡ no_processor
  pub flags : 0 < p.version → IsTrue (flags_valid p.flags)
  pub mul : 0 < p.version → p.mul ≡ mul_for (guest_khz * 1000)
  pub shift : 0 < p.version → p.shift ≡ shift_for (guest_khz * 1000)

-- the processors, and the places of those that aren't there
pub record AreProcessors (guest_khz cpus : ℕ) (ps : List ProcessorParts) : Type 0 where
  pub each : (k : ℕ) → IsProcessor guest_khz (slice_index_or ps k no_processor)
  pub absent : (k : ℕ) → cpus ≤ k → slice_index_or ps k no_processor ≡ no_processor

-- the timers of local APICs and their tick lines, with so many due ticks at most; the places of a
-- board that has none are empty
pub record AreApics (format cpus most : ℕ) (a : ApicsParts) : Type 0 where
  pub places : AreApicsOf (apics_of format cpus) a
  pub due : (k : ℕ) → k < 64 → (apic_line_at k a).counts.due ≤ most

-- the reference page: none before format 4; all is 0 before it is published first; then its scale is
-- that of the guest's rate where it is enabled
pub record IsHv (format guest_khz cpus : ℕ) (p : HvParts) : Type 0 where
  pub version : IsVersion p.version
  pub none : format < HV_FORMAT → p ≡ no_hv
  pub unpublished : p.version ≡ 0 → p ≡ no_hv
  pub processor : p.cpu < cpus
  pub scale : p.scale ≡ (if bit 0 p.number then tsc_scale guest_khz else 0)
  pub offset : p.scale ≡ 0 → p.offset ≡ 0
  pub tsc_offset : p.scale ≡ 0 → p.tsc_offset ≡ 0

-- the counts of rises: only an access lets a line fall, and once at most; format 1 counts none
pub record AreRises (format accesses : ℕ) (lines : List Bool) (rises : List ℕ) : Type 0 where
  pub most : (k : ℕ) → k < 6 → slice_index_or rises k 0
      ≤ accesses + one_if (level_of line_numbers lines (slice_index_or line_numbers k 0))
  pub none : format ≤ 1 → (k : ℕ) → slice_index_or rises k 0 ≡ 0

-- what joins the devices and the rest of a board
pub record IsJoined (b : BoardParts) : Type 0 where
  pub format : IsFormat b.format b.cpus b.hpet.timers
  pub messages : b.hpet.messages ≡ has_messages b.format
  pub rates : AreRates b.anchor b.guest_khz
  pub time : HasTime b.anchor b.host
  pub accesses : b.accesses ≤ MOST_ACCESSES
  pub due : (k : ℕ) → k < 10 → (line_at k (devices_in b)).counts.due ≤ now_of b + b.accesses
  pub wall : IsWall b.wall_number b.wall_version b.wall_nsec
  pub processors : AreProcessors b.guest_khz b.cpus b.processors
  pub rises : AreRises b.format b.accesses (levels (devices_in b)) b.rises
  pub apics : AreApics b.format b.cpus (now_of b + b.accesses) (apics_in b)
  pub hv : IsHv b.format b.guest_khz b.cpus b.hv

-- all conditions
pub record IsBoard (b : BoardParts) : Type 0 where
  pub devices : AreDevices (devices_in b)
  pub joined : IsJoined b
