-- A generated trace as a source.
use Rattle.std.specs.Prelude.{ℕ, List, Some}
use Rattle.byte_log.specs.Calls.{Call}
use Rattle.board_io.specs.Ends.{Input, input_of}

-- the bytes left, and the log of the source's calls
pub record Feed : Type 0 where
  pub left : List ℕ
  pub log : List Call

-- as a source, which has no faults
abbrev pub input_in : Feed → Input
input_in f = record (input_of (Some f.left) f.log) { faults = 0 }
