-- Rows by computing: codes, and a table of three fields of a record of a number, a flag and two
-- bytes.
use Rattle.std.proofs.Common.{◌≡◌, ℕ, negsuc, Bool, true, false, ltb, List, [], ◌∷◌, map, get_or, Option, Some, None, refl}
use Rattle.byte_table.specs.Codes.{number_at, number_bytes, number, byte, signed_byte, flag, flags_byte, flags_of, row_bytes, row_value, row_spelled, rows}
use Rattle.byte_table.specs.Fold.{Field, write, read, fault_in, size_of}
use Rattle.byte_table.specs.Kinds.{plain}

-- numbers with their lowest byte first; a byte after the end counts as 0
numbers : (number_bytes 2 0x1234 ≡ 0x34 ∷ 0x12 ∷ []) × (number_at 2 1 (9 ∷ 0x34 ∷ 0x12 ∷ []) ≡ 0x1234) × (number_at 2 0 (0x34 ∷ []) ≡ 0x34)
unfolding number_at number_bytes
numbers = (refl, refl, refl)

-- a byte with a sign, one that is no flag, and eight flags, the lowest bit first
bytes : (signed_byte.value 0 (255 ∷ []) ≡ negsuc 0) × (flag.spelled 0 (2 ∷ []) ≡ false) × (flags_byte 0 (flags_of 0x85) ≡ 0x85)
bytes = (refl, refl, refl)

record Pair : Type 0 where
  x : ℕ
  on : Bool
  ys : List ℕ

-- the faults: 0 of the length, 1 of a condition
abbrev short : ℕ → List ℕ
short place = 0 ∷ place ∷ []

abbrev invalid : ℕ → List ℕ
invalid place = 1 ∷ place ∷ []

-- a number below 1000, a flag, and two bytes of a list of three
abbrev table : List (Field (List ℕ) Pair Pair)
table =
    plain short invalid (number 2) (λ p. p.x) (λ x p. record p { x = x }) (λ b p. ltb p.x 1000)
    ∷ plain short invalid flag (λ p. p.on) (λ x p. record p { on = x }) (λ b p. true)
    ∷ plain short invalid (rows 2 3 byte 0) (λ p. p.ys) (λ ys p. record p { ys = ys }) (λ b p. ltb (get_or p.ys 0 0) 9)
    ∷ []

abbrev blank : Pair
blank = record { x = 0; on = false; ys = [] }

abbrev example : Pair
example = record { x = 0x102; on = true; ys = 5 ∷ 6 ∷ 0 ∷ [] }

-- what the example takes, its bytes, and the example that they are
trip : (size_of table ≡ 5) × (write table example ≡ 2 ∷ 1 ∷ 1 ∷ 5 ∷ 6 ∷ []) × (read table 1 (9 ∷ 2 ∷ 1 ∷ 1 ∷ 5 ∷ 6 ∷ []) blank ≡ example)
unfolding plain rows number_bytes row_bytes number_at row_value
trip = (refl, refl, refl)

abbrev fault_of : List ℕ → Option (List ℕ)
fault_of bytes = fault_in table (read table 0 bytes blank) (read table 0 bytes blank) 0 bytes

-- none; a field that is cut, short at the length whatever its condition says of what is there; the first of two; a flag's spelling; a condition
faults : map fault_of ((2 ∷ 1 ∷ 1 ∷ 5 ∷ 6 ∷ []) ∷ (2 ∷ 1 ∷ 1 ∷ 99 ∷ []) ∷ (0 ∷ 4 ∷ 2 ∷ 5 ∷ 6 ∷ []) ∷ (2 ∷ 1 ∷ 2 ∷ 5 ∷ 6 ∷ []) ∷ (2 ∷ 1 ∷ 1 ∷ 9 ∷ 6 ∷ []) ∷ [])
    ≡ None ∷ Some (short 4) ∷ Some (invalid 0) ∷ Some (invalid 2) ∷ Some (invalid 3) ∷ []
unfolding plain rows number_at row_value row_spelled
faults = refl
