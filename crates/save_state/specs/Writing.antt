-- The bytes of a board.
use Rattle.std.specs.Prelude.{ℕ, List}
use Rattle.board_types.specs.declared.parts.BoardParts.{BoardParts}
use Rattle.byte_table.specs.Fold.{write}
use Rattle.save_state.specs.Fields.{fields_of}

-- the bytes of a board
unfoldable pub bytes_of : BoardParts → List ℕ
bytes_of b = write (fields_of b.format b.cpus) b
