-- The devices of a board, apart from all else that it holds.
use Rattle.board_types.specs.declared.parts.BoardParts.{BoardParts}
use Rattle.board_devices.specs.declared.parts.DeviceParts.{DeviceParts}
use Rattle.save_state.specs.Reading.{blank}

-- a board with these devices
abbrev pub board_with : DeviceParts → BoardParts
board_with d = record blank {
  pit = d.pit;
  rtc = d.rtc;
  hpet = d.hpet;
  ticks = d.ticks;
  slew_ns = d.slew_ns;
}
