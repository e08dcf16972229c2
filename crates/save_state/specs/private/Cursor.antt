-- What is read from where a cursor stands.
use Rattle.board_types.specs.declared.parts.BoardParts.{BoardParts}
use Rattle.byte_table.specs.Fold.{read}
use Rattle.byte_table.specs.declared.fields.Fields.{Fields as Cursor}
use Rattle.save_state.specs.Fields.{Fields}
use Rattle.save_state.specs.Reading.{blank}

-- the board that a list of fields reads there, all else blank
abbrev pub read_at : Fields BoardParts → Cursor → BoardParts
read_at fs at = read fs at.place at.bytes.now blank
