-- The time of a board, and what of it runs with time.
use Rattle.std.specs.Prelude.{ℕ, max}
use Rattle.host_counter.specs.Time.{time_at}
use Rattle.board_types.specs.declared.parts.BoardParts.{BoardParts}
use Rattle.board_devices.specs.declared.parts.DeviceParts.{DeviceParts}

-- the devices of a board
abbrev pub devices_in : BoardParts → DeviceParts
devices_in b = record {
  pit = b.pit;
  rtc = b.rtc;
  hpet = b.hpet;
  ticks = b.ticks;
  slew_ns = b.slew_ns;
}

-- a board with other devices
abbrev pub with_devices : DeviceParts → BoardParts → BoardParts
with_devices d b = record b {
  pit = d.pit;
  rtc = d.rtc;
  hpet = d.hpet;
  ticks = d.ticks;
  slew_ns = d.slew_ns;
}

-- the time of a board, in nanoseconds: that of the greatest count of its accesses
abbrev pub now_of : BoardParts → ℕ
now_of b = time_at b.anchor b.host

-- the time of an access at count h: a count before the board's moves no time (own)
abbrev pub time_of_access : BoardParts → ℕ → ℕ
time_of_access b h = max (now_of b) (time_at b.anchor h)
