-- The fronts of lines in a buffer.
use Rattle.std.specs.Prelude.{
  ℕ,
  ◌≡◌,
  ◌+◌,
  ◌≤◌,
  List,
  ◌∷◌,
  ◌++◌,
  length,
  take,
  decimal,
}

-- the digits of a line, which end at place 20, a space, and the digits of a number
pub record IsFront (line number start end : ℕ) (text : List ℕ) : Type 0 where
  pub start_is : start + length (decimal line) ≡ 20
  pub end_is : end ≡ 21 + length (decimal number)
  pub short : end ≤ 41
  pub written : take end text ≡ take start text ++ (decimal line ++ 32 ∷ decimal number)
