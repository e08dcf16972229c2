-- Small rows that pin the definitions.
use Rattle.std.proofs.Common.{◌≡◌, true, false, List, [], ◌∷◌, map, refl}
use Rattle.byte_log.specs.Calls.{Call, Moved, Failed, bytes_in, ends_in, failures_in, before_last, is_done, is_late}

-- two bytes, a failure, and a byte
abbrev read : List Call
read = Moved (3 ∷ []) ∷ Failed ∷ Moved (1 ∷ 2 ∷ []) ∷ []

-- .. and then the end, twice
abbrev ended : List Call
ended = Moved [] ∷ Moved [] ∷ read

bytes : bytes_in read ≡ 1 ∷ 2 ∷ 3 ∷ []
bytes = refl

bytes_at_the_end : bytes_in ended ≡ 1 ∷ 2 ∷ 3 ∷ []
bytes_at_the_end = refl

-- a failure is no end
ends : map ends_in ([] ∷ read ∷ ended ∷ []) ≡ 0 ∷ 0 ∷ 2 ∷ []
ends = refl

failures : map failures_in ([] ∷ read ∷ ended ∷ []) ≡ 0 ∷ 1 ∷ 1 ∷ []
failures = refl

last_but_one : map before_last ([] ∷ ended ∷ []) ≡ [] ∷ (Moved [] ∷ read) ∷ []
last_but_one = refl

-- a source is done at its first end, or at its first failure
done : map is_done ([] ∷ (Moved (3 ∷ []) ∷ []) ∷ (Failed ∷ []) ∷ ended ∷ []) ≡ false ∷ false ∷ true ∷ true ∷ []
done = refl

-- a call after the end is late
late : map is_late ((Moved [] ∷ Moved (3 ∷ []) ∷ []) ∷ ended ∷ read ∷ []) ≡ false ∷ true ∷ true ∷ []
late = refl
