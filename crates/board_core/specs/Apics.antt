-- The timers of the local APICs of a board, which format 3 brings.
use Rattle.std.specs.Prelude.{ℕ, nat_le, if◌then◌else◌}
use Rattle.std.specs.Option.{option_map_or}
use Rattle.lapic_timer.specs.Deadline.{count_at}
use Rattle.lapic_timer.specs.Registers.{register_of}
use Rattle.local_apics.specs.declared.parts.ApicsParts.{ApicsParts}
use Rattle.local_apics.specs.Nanosecond.{looked_all}
use Rattle.local_apics.specs.Registers.{written_at, eoi_at}
use Rattle.board_types.specs.declared.access.Access.{Access}
use Rattle.board_types.specs.declared.access.Access.TheVariants.{MsrWrite, Eoi}
use Rattle.board_types.specs.declared.parts.BoardParts.{BoardParts}
use Rattle.board_types.specs.declared.setup.TheConstants.{APIC_FORMAT}
use Rattle.board_core.specs.Time.{now_of}
use Rattle.board_core.specs.Tsc.{processor_at, tsc_read}

-- how many there are: one for each processor, and none before format 3
abbrev pub apics_of : ℕ → ℕ → ℕ
apics_of format cpus = if nat_le APIC_FORMAT format then cpus else 0

-- the timers of a board, with their tick lines
abbrev pub apics_in : BoardParts → ApicsParts
apics_in b = record { timers = b.apic; lines = b.apic_ticks }

-- the board with other ones
abbrev pub with_apics : ApicsParts → BoardParts → BoardParts
with_apics a b = record b { apic = a.timers; apic_ticks = a.lines }

-- the TSC of processor k of a board at nanosecond t
abbrev pub tscs_by_time : BoardParts → ℕ → ℕ → ℕ
tscs_by_time b k t = tsc_read b.anchor b.guest_khz (count_at b.anchor t) (processor_at b k)

-- the timers after an access of a processor: it writes a register of its timer, or it ends an interrupt
abbrev pub apics_acted : ℕ → Access → ApicsParts → ApicsParts
apics_acted cpu (MsrWrite msr v) a = option_map_or (λ r. written_at cpu r v a) (register_of msr) a
apics_acted cpu Eoi a = eoi_at cpu a
apics_acted cpu _ a = a

-- a look at the deadlines of all processors, by their TSCs at the board's time
unfoldable pub after_look : BoardParts → BoardParts
after_look b = with_apics (looked_all (λ k. tscs_by_time b k (now_of b)) (apics_in b)) b
