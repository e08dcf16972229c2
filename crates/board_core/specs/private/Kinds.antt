-- What kind of work an access is.
use Rattle.std.specs.Prelude.{Bool, true, false}
use Rattle.board_types.specs.declared.access.Access.{Access}
use Rattle.board_types.specs.declared.access.Access.TheVariants.{
  PortIn,
  PortOut,
  HpetRead,
  HpetWrite,
  MsrWrite,
  Ack,
  Refresh,
  Eoi,
}

-- whether it asks something of the devices
abbrev pub touches : Access → Bool
touches (PortIn port) = true
touches (PortOut port byte) = true
touches (HpetRead offset width) = true
touches (HpetWrite offset width value) = true
touches (Ack line) = true
touches _ = false

-- whether it writes to what isn't a device: an MSR, a page or a local APIC
abbrev pub writes : Access → Bool
writes (MsrWrite msr value) = true
writes (Refresh page) = true
writes Eoi = true
writes _ = false
