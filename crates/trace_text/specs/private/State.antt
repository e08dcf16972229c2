-- The header line `state`, by its digits.
use Rattle.std.specs.Prelude.{ℕ, List, Option, Some, None, Result, Err}
use Rattle.board_types.specs.declared.parts.BoardParts.{BoardParts}
use Rattle.trace_text.specs.State.{hexes_in, restored}
use Rattle.reply_text.specs.declared.ends.Reason.{Reason}
use Rattle.reply_text.specs.declared.ends.Reason.TheVariants.{Form}

-- the board of the bytes that digits spell, if they spell some
abbrev pub restored_from : ℕ → Option (List ℕ) → Result BoardParts Reason
restored_from format None = Err Form
restored_from format (Some bytes) = restored format bytes

abbrev pub restored_digits : ℕ → List ℕ → Result BoardParts Reason
restored_digits format digits = restored_from format (hexes_in digits)
