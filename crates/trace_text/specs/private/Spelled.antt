-- A line read byte by byte.
use Rattle.std.specs.Prelude.{
  ℕ,
  ◌≡◌,
  ◌+◌,
  ◌-◌,
  ◌*◌,
  ◌^◌,
  ◌<◌,
  ◌≤◌,
  ◌==◌,
  nat_eq,
  nat_lt,
  nat_le,
  ◌&&◌,
  ◌||◌,
  Bool,
  false,
  List,
  [],
  ◌∷◌,
  length,
  drop,
  slice_index,
  Option,
  Some,
  None,
  if◌then◌else◌,
}
use Rattle.std.specs.Option.{option_map}
use Rattle.std.specs.Char.{digit_value}
use Rattle.std.specs.List.{starts_with}
use Rattle.trace_text.specs.Tokens.{words_of, number_in}
use Rattle.trace_text.specs.declared.bytes.Number.{Number}
use Rattle.trace_text.specs.declared.digits.Digits.{Digits}
use Rattle.trace_text.specs.declared.digits.Digits.TheVariants.{Eight, Fewer}

-- what was spelled: how many digits, their number, and the words after
pub record Spelled : Type 0 where
  pub count : ℕ
  pub value : ℕ
  pub left : List (List ℕ)

-- the number that is spelled up to the next space, after `count` digits that spelled n
unfoldable pub spelled : ℕ → ℕ → ℕ → List ℕ → Option Spelled
spelled base count n [] = Some (record { count = count; value = n; left = [] })
spelled base count n (c ∷ cs) =
    if c == 32 then Some (record { count = count; value = n; left = words_of cs })
    else if nat_lt (digit_value c) base && nat_lt (n * base + digit_value c) 18446744073709551616
    then spelled base (count + 1) (n * base + digit_value c) cs
    else None

-- the bytes from a place of a line up to another are decimal digits, which spell this number, also after others that
-- spell one that is not too large
abbrev pub AreDigits : List ℕ → ℕ → ℕ → ℕ → Type 0
AreDigits line at end n =
    (n < 10 ^ (end - at))
    × ((count read : ℕ) → (read + 1) * 10 ^ (end - at) ≤ 18446744073709551616
    → spelled 10 count read (drop at line) ≡ spelled 10 (count + (end - at)) (read * 10 ^ (end - at) + n) (drop end line))

-- the decimal digits that the eight bytes from a place of a line on begin with
abbrev pub AreRead : List ℕ → ℕ → Digits → Type 0
AreRead line at (Eight n) = AreDigits line at (at + 8) n
AreRead line at (Fewer s) = (at ≤ s.end) × (s.end < at + 8) × AreDigits line at s.end s.value

-- the words after a first word that is this one
unfoldable pub after_word : List ℕ → List ℕ → Option (List (List ℕ))
after_word [] [] = Some []
after_word [] (c ∷ cs) = if c == 32 then Some (words_of cs) else None
after_word (b ∷ bs) [] = None
after_word (b ∷ bs) (c ∷ cs) = if c == b then after_word bs cs else None

-- whether the first word begins with these letters, and the words without its first bytes
abbrev pub begins : List ℕ → List (List ℕ) → Bool
begins letters [] = false
begins letters (w ∷ ws) = starts_with nat_eq w letters

abbrev pub shortened : ℕ → List (List ℕ) → List (List ℕ)
shortened count [] = []
shortened count (w ∷ ws) = drop count w ∷ ws

-- the words of a line from a place on: none after its end
unfoldable pub words_from : ℕ → List ℕ → List (List ℕ)
words_from at line = if nat_le at (length line) then words_of (drop at line) else []

-- the bytes from a place of a line up to another are a word, which spells this number in a base
abbrev pub Spells : ℕ → List ℕ → ℕ → ℕ → ℕ → Type 0
Spells base line at end n =
    spelled base 0 0 (drop at line) ≡ Some (record { count = end - at; value = n; left = words_from (end + 1) line })

-- a word's number, how many digits it has, and whether it begins with a zero
unfoldable pub number_of : ℕ → List ℕ → Option Number
number_of base word =
    option_map (λ n. record {
      value = n;
      digits = length word;
      zero = slice_index word 0 == 48;
    }) (number_in base word)

-- what a decimal number is: it has digits, and no zero in front of others
abbrev pub decimal_of : Number → Option ℕ
decimal_of n = if n.digits == 0 || (n.zero && nat_lt 1 n.digits) then None else Some n.value

-- what a hexadecimal number is: it has digits, and no more than that many
abbrev pub hex_of : ℕ → Number → Option ℕ
hex_of most n = if n.digits == 0 || nat_lt most n.digits then None else Some n.value
