-- Words of a printed line.
use Rattle.std.specs.Prelude.{ℕ, zero, suc, ◌/◌, ◌%◌, List, [], ◌∷◌, ◌++◌}
use Rattle.std.specs.Char.{digit_char}

-- that many hexadecimal digits of a number, the last ones, in lower case
unfoldable pub hex_text : ℕ → ℕ → List ℕ
hex_text zero n = []
hex_text (suc count) n = hex_text count (n / 16) ++ digit_char (n % 16) ∷ []

-- bytes, two digits each
unfoldable pub hexes : List ℕ → List ℕ
hexes [] = []
hexes (b ∷ bs) = digit_char (b / 16) ∷ digit_char (b % 16) ∷ hexes bs

-- words one after another, each after a space, and the line's end
abbrev pub spaced : List (List ℕ) → List ℕ
spaced [] = 10 ∷ []
spaced (w ∷ ws) = 32 ∷ w ++ spaced ws

-- a line of words: they are parted by single spaces
abbrev pub line_of : List ℕ → List (List ℕ) → List ℕ
line_of w ws = w ++ spaced ws
