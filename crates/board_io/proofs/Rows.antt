-- Small rows that pin the definitions.
use Rattle.std.proofs.Common.{◌≡◌, ℕ, ◌-◌, ◌==◌, ◌||◌, min, true, false, List, [], ◌∷◌, length, Ok, Err, map, refl, ap, arith}
use Rattle.byte_log.specs.Calls.{Call, Moved, bytes_in}
use Rattle.board_io.specs.Faults.{Rose, most_given, gave_nothing}
use Rattle.board_io.specs.Memory.{Supply, next_call, is_to_fail, supply_fails, piece_of}

-- a count that stays hasn't risen
counts_one_more : Rose 4 5
counts_one_more = omega arith

stays : Rose 4 4 → ⊥
stays rose = absurd (omega (arith, rose))

-- only a failure and the end of the input give nothing
nothing_given : map (gave_nothing {E = ℕ}) (Ok 1 ∷ Ok 0 ∷ Err 7 ∷ []) ≡ false ∷ true ∷ true ∷ []
nothing_given = refl

most_is_two_to_62 : most_given ≡ 4611686018427387904
most_is_two_to_62 = refl

-- calls are counted from 1, up to the greatest count
calls : map next_call (0 ∷ 18446744073709551615 ∷ []) ≡ 1 ∷ 18446744073709551615 ∷ []
calls = refl

third_call_fails : is_to_fail (5 ∷ 3 ∷ []) 2 ≡ true
third_call_fails = refl

-- a source of five bytes that gave three, in pieces of four at most, whose call 9 is to fail
abbrev supply : Supply
supply = record {
  left = 4 ∷ 5 ∷ [];
  log = Moved (1 ∷ 2 ∷ 3 ∷ []) ∷ [];
  calls = 7;
  failing = 9 ∷ [];
  largest = 4;
}

-- its call 8 doesn't fail; call 9 does, and any after it gave the most
failures : map supply_fails (supply ∷ record supply { calls = 8 } ∷ []) ≡ false ∷ true ∷ []
failures = refl

fails_at_the_most : (log : List Call) → length (bytes_in log) ≡ 4611686018427387904 → supply_fails (record supply { log = log }) ≡ true
fails_at_the_most log all = ap (λ (n : ℕ). is_to_fail supply.failing supply.calls || n == most_given) all

-- a piece is what is left, the places, the largest piece or what is missing to the most, whichever is least
pieces : map (λ s. piece_of s 9) (supply ∷ record supply { largest = 1 } ∷ []) ≡ 2 ∷ 1 ∷ []
pieces = refl

last_piece : (log : List Call) → length (bytes_in log) ≡ 4611686018427387903 → piece_of (record supply { log = log }) 9 ≡ 1
last_piece log most = ap (λ (n : ℕ). min (min 9 supply.largest) (min (length supply.left) (most_given - n))) most

places : piece_of supply 1 ≡ 1
places = refl
