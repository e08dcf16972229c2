-- The header line `state`: a saved board, which the trace goes on with.
use Rattle.std.specs.Prelude.{
  ℕ,
  min,
  ◌==◌,
  nat_lt,
  nat_le,
  Bool,
  ◌&&◌,
  ◌||◌,
  List,
  length,
  Option,
  None,
  Result,
  Ok,
  Err,
  if◌then◌else◌,
}
use Rattle.std.specs.Option.{option_map_or}
use Rattle.std.specs.Result.{result_ok}
use Rattle.hex.specs.Hex.{decode_of}
use Rattle.board_core.specs.Upgrade.{upgraded_to}
use Rattle.board_types.specs.declared.parts.BoardParts.{BoardParts}
use Rattle.save_state.specs.Places.{format_in}
use Rattle.save_state.specs.Reading.{board_in}
use Rattle.save_state.specs.Table.{fault_of}
use Rattle.save_state.specs.declared.fault.StateFault.{StateFault}
use Rattle.trace_loop.specs.declared.lines.TheConstants.{STATE_LINE_MAX}
use Rattle.trace_text.specs.Tokens.{first}
use Rattle.reply_text.specs.declared.ends.Reason.{Reason}
use Rattle.reply_text.specs.declared.ends.Reason.TheVariants.{StateBytes}

-- HEXES: bytes of two digits each, of either case, at least one, and no more than a line has bytes
abbrev pub hexes_in : List ℕ → Option (List ℕ)
hexes_in word =
    if (length word == 0) || nat_lt STATE_LINE_MAX (length word) then None else result_ok (decode_of word)

-- the bytes that the first word spells
abbrev pub hexes : List (List ℕ) → Option (List ℕ)
hexes = first hexes_in

-- whether the version of bytes, which stands from 8 up to 10, is above the trace's format
abbrev pub is_newer : ℕ → List ℕ → Bool
is_newer format bytes = nat_le 10 (length bytes) && nat_lt format (format_in bytes)

-- the place of a fault: such a version is one too
abbrev pub place_in : ℕ → List ℕ → StateFault → ℕ
place_in format bytes fault = if is_newer format bytes then min fault.place 8 else fault.place

-- a board in the trace's format
abbrev pub in_format : ℕ → BoardParts → Result BoardParts Reason
in_format format b =
    if nat_lt format b.format then Err (StateBytes 8) else Ok (upgraded_to format b)

-- the board that a trace of this format begins with, by these bytes, unless they have a fault
unfoldable pub restored : ℕ → List ℕ → Result BoardParts Reason
restored format bytes =
    option_map_or (λ fault. Err (StateBytes (place_in format bytes fault))) (fault_of bytes)
    (in_format format (board_in bytes))
