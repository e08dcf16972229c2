-- What the types of a board's fields say: each number fits its bytes, each list has its places.
use Rattle.std.specs.Prelude.{◌≡◌, ℕ, ◌+◌, ◌^◌, ◌<◌, length, slice_index, slice_index_or}
use Rattle.std.specs.Int.{w8}
use Rattle.std.specs.Int.RustNames.{FitsSigned}
use Rattle.pit_counter.specs.declared.parts.CounterParts.{CounterParts}
use Rattle.pit_readback.specs.Pit.{counter_of}
use Rattle.hpet_comparator.specs.declared.parts.TimerParts.{TimerParts}
use Rattle.hpet_registers.specs.declared.parts.HpetParts.{HpetParts}
use Rattle.hpet_registers.specs.Parts.{timer_at}
use Rattle.pit_readback.specs.declared.parts.PitParts.{PitParts}
use Rattle.tick_policy.specs.declared.parts.TickParts.{TickParts}
use Rattle.lapic_timer.specs.declared.parts.ApicParts.{ApicParts}
use Rattle.board_types.specs.declared.parts.BoardParts.{BoardParts}
use Rattle.board_types.specs.declared.parts.HvParts.{HvParts}
use Rattle.board_types.specs.declared.parts.ProcessorParts.{ProcessorParts}
use Rattle.board_types.specs.Setup.{timers_of}
use Rattle.board_devices.specs.Places.{line_at}
use Rattle.board_devices.specs.declared.parts.DeviceParts.{DeviceParts}
use Rattle.board_core.specs.Time.{devices_in}
use Rattle.board_core.specs.Tsc.{processor_at}
use Rattle.board_core.specs.Apics.{apics_of}
use Rattle.save_state.specs.Fields.{Apic, apic_pairs, no_apic}

-- a counter
pub record CounterFits (c : CounterParts) : Type 0 where
  pub cr : c.cr < 256 ^ 2
  pub ce : c.ce < 256 ^ 2
  pub latched_count : c.latched_count < 256 ^ 2

-- a timer
pub record TimerFits (t : TimerParts) : Type 0 where
  pub config : t.config < 256 ^ 2
  pub comparator : t.comparator < 256 ^ 8
  pub period : t.period < 256 ^ 8

-- a tick line
pub record LineFits (l : TickParts) : Type 0 where
  pub due : l.counts.due < 256 ^ 8
  pub rises : l.counts.rises < 256 ^ 8
  pub queue : l.counts.queue < 256 ^ 8
  pub lost : l.counts.lost < 256 ^ 8

-- the TSC of a processor, with the version of its page
pub record TscFits (p : ProcessorParts) : Type 0 where
  pub offset : p.offset < 256 ^ 8
  pub adjust : p.adjust < 256 ^ 8
  pub number : p.number < 256 ^ 8
  pub version : p.version < 256 ^ 4

-- the page of a processor
pub record PageFits (p : ProcessorParts) : Type 0 where
  pub tsc_timestamp : p.tsc_timestamp < 256 ^ 8
  pub system_time : p.system_time < 256 ^ 8
  pub mul : p.mul < 256 ^ 4
  pub shift : FitsSigned w8 p.shift

-- a processor
pub record ProcessorFits (p : ProcessorParts) : Type 0 where
  pub tsc : TscFits p
  pub page : PageFits p

-- the counters that are written
abbrev pub CountersFit : PitParts → Type 0
CountersFit p = (k : ℕ) → k < 3 → CounterFits (counter_of p k)

-- the timers that are written
abbrev pub TimersFit : HpetParts → Type 0
TimersFit h = (k : ℕ) → k < h.timers → TimerFits (timer_at k h)

-- the tick lines that are written
abbrev pub LinesFit : ℕ → DeviceParts → Type 0
LinesFit n d = (k : ℕ) → k < n + 2 → LineFits (line_at k d)

-- the processors that are written
abbrev pub ProcessorsFit : BoardParts → Type 0
ProcessorsFit b = (k : ℕ) → k < b.cpus → ProcessorFits (processor_at b k)

-- a timer of a local APIC
pub record ApicTimerFits (p : ApicParts) : Type 0 where
  pub lvt : p.lvt < 256 ^ 4
  pub initial : p.initial < 256 ^ 4
  pub current : p.current < 256 ^ 4
  pub deadline : p.deadline < 256 ^ 8

-- .. with its tick line
pub record ApicFits (a : Apic) : Type 0 where
  pub timer : ApicTimerFits a.0
  pub line : LineFits a.1

-- those that are written
abbrev pub ApicsFit : BoardParts → Type 0
ApicsFit b =
    (k : ℕ) → k < apics_of b.format b.cpus → ApicFits (slice_index_or (apic_pairs b) k no_apic)

-- the reference page
pub record ReferenceFits (p : HvParts) : Type 0 where
  pub number : p.number < 256 ^ 8
  pub version : p.version < 256 ^ 4
  pub scale : p.scale < 256 ^ 8
  pub offset : p.offset < 256 ^ 8
  pub tsc_offset : p.tsc_offset < 256 ^ 8

-- the anchor and the greatest count
pub record HostFits (b : BoardParts) : Type 0 where
  pub khz : b.anchor.khz < 256 ^ 8
  pub start : b.anchor.start < 256 ^ 8
  pub base_ns : b.anchor.base_ns < 256 ^ 8
  pub host : b.host < 256 ^ 8

-- the guest's rate and the other numbers before the 8254
pub record GuestFits (b : BoardParts) : Type 0 where
  pub guest_khz : b.guest_khz < 256 ^ 8
  pub accesses : b.accesses < 256 ^ 8
  pub greatest : b.greatest < 256 ^ 8
  pub slew_ns : b.slew_ns < 256 ^ 8

-- the counts of rises
pub record RisesFit (b : BoardParts) : Type 0 where
  pub places : length b.rises ≡ 6
  pub each : (k : ℕ) → slice_index b.rises k < 256 ^ 8

-- the wall clock
pub record WallFits (b : BoardParts) : Type 0 where
  pub number : b.wall_number < 256 ^ 8
  pub version : b.wall_version < 256 ^ 4
  pub sec : b.wall_sec < 256 ^ 4
  pub nsec : b.wall_nsec < 256 ^ 4

-- the blocks of the devices, of which n are timers
pub record DevicesFit (n : ℕ) (d : DeviceParts) : Type 0 where
  pub counters : CountersFit d.pit
  pub timers : TimersFit d.hpet
  pub lines : LinesFit n d

-- the numbers and the places of the devices
pub record NumbersFit (d : DeviceParts) : Type 0 where
  pub divider : d.rtc.d < 256 ^ 2
  pub counter : d.hpet.counter < 256 ^ 8
  pub timers : length d.hpet.timer ≡ 8
  pub bits : length d.hpet.message_bit ≡ 8
  pub words : length d.hpet.message_word ≡ 8
  pub word : (k : ℕ) → slice_index d.hpet.message_word k < 256 ^ 8

-- what follows the tick lines
pub record BackFits (b : BoardParts) : Type 0 where
  pub rises : RisesFit b
  pub wall : WallFits b
  pub processors : ProcessorsFit b
  pub processor_places : length b.processors ≡ 64
  pub apics : ApicsFit b
  pub reference : ReferenceFits b.hv

-- a board
pub record BoardFits (b : BoardParts) : Type 0 where
  pub host : HostFits b
  pub guest : GuestFits b
  pub numbers : NumbersFit (devices_in b)
  pub devices : DevicesFit (timers_of b.format) (devices_in b)
  pub back : BackFits b
