-- A board taken to a later format.
use Rattle.std.specs.Prelude.{ℕ, Bool, ◌&&◌, nat_lt, nat_le, if◌then◌else◌}
use Rattle.local_apics.specs.declared.parts.ApicsParts.{ApicsParts}
use Rattle.local_apics.specs.Parts.{apics_at_power_on}
use Rattle.board_types.specs.declared.parts.BoardParts.{BoardParts}
use Rattle.board_types.specs.declared.setup.TheConstants.{APIC_FORMAT}
use Rattle.board_types.specs.Setup.{has_messages}
use Rattle.board_devices.specs.declared.parts.DeviceParts.{DeviceParts}
use Rattle.board_devices.specs.Parts.{devices_upgraded}
use Rattle.board_core.specs.Apics.{apics_in, with_apics}
use Rattle.board_core.specs.Time.{devices_in}

-- whether the HPET of a format has eight timers, as from format 2 on
abbrev pub has_eight_timers : ℕ → Bool
has_eight_timers format = nat_le 2 format

-- whether a board of the one format gets the timers of local APICs, which format 3 brings
abbrev pub gets_apics : ℕ → ℕ → Bool
gets_apics format to = nat_lt format APIC_FORMAT && nat_le APIC_FORMAT to

-- those timers of a board of so many processors: those that it gets are as at power on
abbrev pub apics_upgraded : ℕ → Bool → ApicsParts → ApicsParts
apics_upgraded cpus more a = if more then apics_at_power_on cpus else a

-- the format is set; the HPET's five timers and their tick lines, its message registers and the
-- timers of local APICs are as at power on where the format brings them, the counts of rises go on
-- from 0, and all else is kept
unfoldable pub upgraded_to : ℕ → BoardParts → BoardParts
upgraded_to to b =
    let d : DeviceParts = devices_upgraded (has_messages to) (devices_in b) in
    let a : ApicsParts = apics_upgraded b.cpus (gets_apics b.format to) (apics_in b) in
    record (with_apics a b) {
      format = to;
      hpet = if has_eight_timers to then d.hpet else b.hpet;
      ticks = if has_eight_timers to then d.ticks else b.ticks;
    }
