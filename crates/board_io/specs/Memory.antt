-- Sources and sinks in memory.
use Rattle.std.specs.Prelude.{ℕ, ◌+◌, ◌-◌, min, Bool, ◌||◌, ◌==◌, List, length, Some}
use Rattle.std.specs.List.{list_any}
use Rattle.byte_log.specs.Calls.{Call, bytes_in}
use Rattle.board_io.specs.Faults.{most_given}
use Rattle.board_io.specs.Ends.{Input, Output, input_of, output_of}

-- what a source in memory holds: the bytes left, the log of its calls, their number, which of them fail,
-- and the largest piece
pub record Supply : Type 0 where
  pub left : List ℕ
  pub log : List Call
  pub calls : ℕ
  pub failing : List ℕ
  pub largest : ℕ

-- as a source
abbrev pub input_in : Supply → Input
input_in s = input_of (Some s.left) s.log

-- what a sink in memory holds: the bytes, the log of its calls, their number, which of them fail, and the
-- largest piece
pub record Store : Type 0 where
  pub held : List ℕ
  pub log : List Call
  pub calls : ℕ
  pub failing : List ℕ
  pub largest : ℕ

-- as a sink
abbrev pub output_in : Store → Output
output_in s = output_of (Some s.held) s.log

-- the number of the next call, which stays at its type's greatest value
abbrev pub next_call : ℕ → ℕ
next_call calls = min (calls + 1) 18446744073709551615

-- whether the next call is to fail
abbrev pub is_to_fail : List ℕ → ℕ → Bool
is_to_fail failing calls = list_any (λ call. call == next_call calls) failing

-- whether the next call of a source fails: it is to, or the source has given the most
abbrev pub supply_fails : Supply → Bool
supply_fails s = is_to_fail s.failing s.calls || length (bytes_in s.log) == most_given

-- how many bytes a source gives into so many places
abbrev pub piece_of : Supply → ℕ → ℕ
piece_of s places = min (min places s.largest) (min (length s.left) (most_given - length (bytes_in s.log)))
