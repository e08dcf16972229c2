-- A board at power on.
use Rattle.std.specs.Prelude.{replicate}
use Rattle.local_apics.specs.Parts.{apics_at_power_on}
use Rattle.board_types.specs.declared.setup.Setup.{Setup}
use Rattle.board_types.specs.declared.parts.BoardParts.{BoardParts}
use Rattle.board_devices.specs.Parts.{devices_at_power_on}
use Rattle.board_core.specs.Tsc.{no_processor}
use Rattle.board_core.specs.Apics.{apics_of}
use Rattle.board_core.specs.Hv.{no_hv}

-- no access yet, the time of the anchor's first count, no page published, no number written
abbrev pub board_at_power_on : Setup → BoardParts
board_at_power_on s = record {
  format = s.format;
  cpus = s.cpus;
  anchor = s.anchor;
  host = s.anchor.start;
  guest_khz = s.guest_khz;
  accesses = 0;
  greatest = 0;
  slew_ns = (devices_at_power_on s).slew_ns;
  pit = (devices_at_power_on s).pit;
  rtc = (devices_at_power_on s).rtc;
  hpet = (devices_at_power_on s).hpet;
  ticks = (devices_at_power_on s).ticks;
  wall_number = 0;
  wall_version = 0;
  wall_sec = s.wall_sec;
  wall_nsec = s.wall_nsec;
  processors = replicate 64 no_processor;
  rises = replicate 6 0;
  apic = (apics_at_power_on (apics_of s.format s.cpus)).timers;
  apic_ticks = (apics_at_power_on (apics_of s.format s.cpus)).lines;
  hv = no_hv;
}
