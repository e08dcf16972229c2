-- The board that bytes are, whether or not their conditions hold.
use Rattle.std.specs.Prelude.{ℕ, List}
use Rattle.board_types.specs.declared.parts.BoardParts.{BoardParts}
use Rattle.board_types.specs.Setup.{setup_by_default}
use Rattle.board_core.specs.PowerOn.{board_at_power_on}
use Rattle.byte_table.specs.Fold.{read}
use Rattle.save_state.specs.Fields.{Fields, fields_of}
use Rattle.save_state.specs.Places.{format_in, cpus_in}

-- what all fields are put into: any board, since no value of it is left
abbrev pub blank : BoardParts
blank = board_at_power_on (setup_by_default 1)

-- the fields that bytes have, by their format and number of processors
abbrev pub fields_in : List ℕ → Fields BoardParts
fields_in bytes = fields_of (format_in bytes) (cpus_in bytes)

-- the board that bytes are
unfoldable pub board_in : List ℕ → BoardParts
board_in bytes = read (fields_in bytes) 0 bytes blank
