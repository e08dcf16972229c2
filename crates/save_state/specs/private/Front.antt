-- What is before the 8254, as it is read from the first bytes.
use Rattle.std.specs.Prelude.{ℕ, List}
use Rattle.board_types.specs.declared.parts.BoardParts.{BoardParts}
use Rattle.byte_table.specs.Codes.{byte, number_at, row_value}
use Rattle.save_state.specs.declared.front.Front.{Front}
use Rattle.save_state.specs.Fields.{policy_place}
use Rattle.save_state.specs.Reading.{board_in}

abbrev pub front_of : List ℕ → Front
front_of bytes = let b : BoardParts = board_in bytes in record {
  magic = number_at 8 0 bytes;
  format = b.format;
  cpus = b.cpus;
  anchor = b.anchor;
  host = b.host;
  guest_khz = b.guest_khz;
  accesses = b.accesses;
  greatest = b.greatest;
  slew_ns = b.slew_ns;
  policies = row_value byte 3 (policy_place 0) bytes;
}
