-- What a call leaves that appends bytes to a text, and how many they are.
use Rattle.std.specs.Prelude.{◌≡◌, ◌+◌, ◌<◌, ◌≤◌, List, ◌++◌, length, Result, OnOk, OnErr}
use Rattle.std.specs.Prelude.{vec_items, vec_len, vec_capacity}
use Rattle.std.specs.declared.vec.Vec.{Vec}

-- the bytes were appended; or memory ran out, which they had no room in
pub record IsAppended {X Z T E : Type 0} (old new : Vec X Z) (bytes : List X) (result : Result T E)
    : Type 0 where
  pub ok : OnOk result (vec_items new ≡ vec_items old ++ bytes)
  pub len : OnOk result (vec_len new ≡ vec_len old + length bytes)
  pub full : OnErr result (vec_capacity old < vec_len old + length bytes)
  pub grows : vec_capacity old ≤ vec_capacity new
