-- Words of a line, and the numbers that they spell.
use Rattle.std.specs.Prelude.{
  ℕ,
  ◌^◌,
  ◌==◌,
  nat_eq,
  nat_lt,
  nat_le,
  ◌&&◌,
  ◌||◌,
  Bool,
  false,
  List,
  [],
  ◌∷◌,
  length,
  drop,
  Option,
  Some,
  None,
  option_and_then,
  if◌then◌else◌,
}
use Rattle.std.specs.List.{slice_split, list_all, starts_with}
use Rattle.std.specs.Char.{digit_value}
use Rattle.std.specs.Str.{bytes_eq}
use Rattle.std.specs.Str.Parse.{digits_value}

-- the words of a line: cut by spaces, so that two spaces in a row have an empty word between them
unfoldable pub words_of : List ℕ → List (List ℕ)
words_of line = slice_split (λ b. b == 32) line

-- what a token makes of the first word, if there is one
abbrev pub first : {A : Type 0} → (List ℕ → Option A) → List (List ℕ) → Option A
first token [] = None
first token (w ∷ ws) = token w

-- the words after the first
abbrev pub rest : List (List ℕ) → List (List ℕ)
rest [] = []
rest (w ∷ ws) = ws

-- whether the first word is this one
abbrev pub starts : List ℕ → List (List ℕ) → Bool
starts name [] = false
starts name (w ∷ ws) = bytes_eq w name

-- all bytes are digits in this base
abbrev pub are_digits : ℕ → List ℕ → Bool
are_digits base word = list_all (λ c. nat_lt (digit_value c) base) word

-- the number below 2^64 that digits in this base spell
unfoldable pub number_in : ℕ → List ℕ → Option ℕ
number_in base word =
    if are_digits base word && nat_lt (digits_value base word) 18446744073709551616
    then Some (digits_value base word) else None

-- a number, where it passes a test
abbrev pub such_that : (ℕ → Bool) → Option ℕ → Option ℕ
such_that test o = option_and_then (λ n. if test n then Some n else None) o

-- DEC: a decimal number below 2^64, without sign and without leading zeros
unfoldable pub decimal_in : List ℕ → Option ℕ
decimal_in [] = None
decimal_in (c ∷ []) = number_in 10 (c ∷ [])
decimal_in (c ∷ d ∷ ds) = if c == 48 then None else number_in 10 (c ∷ d ∷ ds)

-- a DEC in one word with these letters in front of it
unfoldable pub decimal_past : List ℕ → List ℕ → Option ℕ
decimal_past letters word =
    if starts_with nat_eq word letters then decimal_in (drop (length letters) word) else None

-- a hexadecimal number of 1 to that many digits of either case
unfoldable pub hex_in : ℕ → List ℕ → Option ℕ
hex_in most word =
    if length word == 0 || nat_lt most (length word) then None else number_in 16 word

-- DEC
abbrev pub dec : List (List ℕ) → Option ℕ
dec = first decimal_in

-- HEX: 1 to 16 digits
abbrev pub hex : List (List ℕ) → Option ℕ
hex = first (hex_in 16)

-- BYTE: 1 or 2 digits
abbrev pub byte : List (List ℕ) → Option ℕ
byte = first (hex_in 2)

-- a DEC within these bounds
abbrev pub dec_within : ℕ → ℕ → List (List ℕ) → Option ℕ
dec_within least most ws = such_that (λ n. nat_le least n && nat_le n most) (dec ws)

-- KHZ
abbrev pub khz : List (List ℕ) → Option ℕ
khz = dec_within 100000 10000000

-- a DEC, or a HEX, of so many bits
abbrev pub dec_of_bits : ℕ → List (List ℕ) → Option ℕ
dec_of_bits bits ws = such_that (λ n. nat_lt n (2 ^ bits)) (dec ws)

-- a HEX of so many bits
abbrev pub hex_of_bits : ℕ → List (List ℕ) → Option ℕ
hex_of_bits bits ws = such_that (λ n. nat_lt n (2 ^ bits)) (hex ws)
