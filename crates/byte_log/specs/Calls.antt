-- The calls of a source or a sink, the last one first, and what follows from them.
use Rattle.std.specs.Prelude.{ℕ, ◌+◌, ◌==◌, ◌||◌, Bool, true, false, List, [], ◌∷◌, ◌++◌, length, if◌then◌else◌}

-- one call: these bytes were read or accepted, or it failed
pub data Call : Type 0 where
  Moved : List ℕ → Call
  Failed : Call

-- all bytes that were read or accepted, the first one first
abbrev pub bytes_in : List Call → List ℕ
bytes_in [] = []
bytes_in (Moved piece ∷ calls) = bytes_in calls ++ piece
bytes_in (Failed ∷ calls) = bytes_in calls

-- how many calls moved no byte and didn't fail: they were at the end of the input
abbrev pub ends_in : List Call → ℕ
ends_in [] = 0
ends_in (Moved piece ∷ calls) = if length piece == 0 then ends_in calls + 1 else ends_in calls
ends_in (Failed ∷ calls) = ends_in calls

-- how many calls failed
abbrev pub failures_in : List Call → ℕ
failures_in [] = 0
failures_in (Moved piece ∷ calls) = failures_in calls
failures_in (Failed ∷ calls) = failures_in calls + 1

-- the calls before the last one
abbrev pub before_last : List Call → List Call
before_last [] = []
before_last (call ∷ calls) = calls

-- a call moved no byte
abbrev pub moved_nothing : Call → Bool
moved_nothing (Moved piece) = length piece == 0
moved_nothing Failed = true

-- whether a call moved no byte
abbrev pub is_done : List Call → Bool
is_done [] = false
is_done (call ∷ calls) = is_done calls || moved_nothing call

-- whether a call came after one that moved no byte
abbrev pub is_late : List Call → Bool
is_late [] = false
is_late (call ∷ calls) = is_late calls || is_done calls
