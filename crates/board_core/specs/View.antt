-- How the fields of a board are seen.
use Rattle.std.specs.Prelude.{◌≡◌}
use Rattle.host_counter.specs.Time.{time_at}
use Rattle.board_types.specs.declared.parts.BoardParts.{BoardParts}
use Rattle.board_core.specs.declared.board.BoardState.TheInside.{Inside}
use Rattle.board_core.specs.Time.{now_of}
use Rattle.board_core.specs.Conditions.{IsJoined}

abbrev pub board_parts_of : Inside → BoardParts
board_parts_of b = record {
  format = b.format;
  cpus = b.cpus;
  anchor = b.anchor;
  host = b.host;
  guest_khz = b.guest_khz;
  accesses = b.accesses;
  greatest = b.greatest;
  slew_ns = b.devices.slew_ns;
  pit = b.devices.pit;
  rtc = b.devices.rtc;
  hpet = b.devices.hpet;
  ticks = b.devices.ticks;
  wall_number = b.wall_number;
  wall_version = b.wall_version;
  wall_sec = b.wall_sec;
  wall_nsec = b.wall_nsec;
  processors = b.processors;
  rises = b.rises;
  apic = b.apics.timers;
  apic_ticks = b.apics.lines;
  hv = b.hv;
}

-- the time is kept beside the count, since each access asks for it
pub record IsKept (b : Inside) : Type 0 where
  pub time : b.time_ns ≡ now_of (board_parts_of b)
  pub joined : IsJoined (board_parts_of b)

abbrev pub board_of : BoardParts → Inside
board_of p = record {
  format = p.format;
  cpus = p.cpus;
  anchor = p.anchor;
  host = p.host;
  time_ns = time_at p.anchor p.host;
  guest_khz = p.guest_khz;
  accesses = p.accesses;
  greatest = p.greatest;
  devices = record {
    pit = p.pit;
    rtc = p.rtc;
    hpet = p.hpet;
    ticks = p.ticks;
    slew_ns = p.slew_ns;
  };
  wall_number = p.wall_number;
  wall_version = p.wall_version;
  wall_sec = p.wall_sec;
  wall_nsec = p.wall_nsec;
  apics = record { timers = p.apic; lines = p.apic_ticks };
  processors = p.processors;
  rises = p.rises;
  hv = p.hv;
}
