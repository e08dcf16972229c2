-- How a reader cuts lines off the bytes that it took.
use Rattle.std.specs.Prelude.{◌≡◌, ◌≢◌, ℕ, ◌+◌, ◌≤◌, List, [], ◌∷◌, ◌++◌, length, take, drop, ◌⊎◌}
use Rattle.std.specs.Prelude.{Result, OnOk}
use Rattle.trace_loop.specs.Progress.{limit_of}

-- what a reader holds: how many lines it handed out, the last of them, what came of the next, and
-- the bytes that it has not looked at
pub record Cut : Type 0 where
  pub number : ℕ
  pub line : List ℕ
  pub text : List ℕ
  pub left : List ℕ

-- no byte is the end of a line
abbrev pub HasNoEnd : List ℕ → Type 0
HasNoEnd [] = Unit {0}
HasNoEnd (b ∷ bs) = (b ≢ 10) × HasNoEnd bs

-- a line was cut off: up to its end, or up to the first byte that is too many
pub record IsLine (old new : Cut) : Type 0 where
  pub short : length old.text ≤ limit_of old.text
  pub bytes : List ℕ
  pub in_line : HasNoEnd bytes
  pub line : new.line ≡ old.text ++ bytes
  pub text : new.text ≡ []
  pub number : new.number ≡ old.number + 1
  pub end : ((length new.line ≤ limit_of new.line) × (old.left ≡ bytes ++ 10 ∷ new.left))
      ⊎ ((length new.line ≡ limit_of new.line + 1) × (old.left ≡ bytes ++ new.left))

-- no line ends in the bytes: they are all part of the next one
pub record IsWhole (old new : Cut) : Type 0 where
  pub in_line : HasNoEnd old.left
  pub text : new.text ≡ old.text ++ old.left
  pub left : new.left ≡ []
  pub short : length new.text ≤ limit_of new.text
  pub number : new.number ≡ old.number

-- the present line was handed out, of which n bytes were left; or memory ran out
pub record IsHandedOut {T E : Type 0} (old new : Cut) (n : ℕ) (result : Result T E) : Type 0 where
  pub line : OnOk result (new.line ≡ old.text ++ take n old.left)
  pub text : OnOk result (new.text ≡ [])
  pub left : OnOk result (new.left ≡ drop n old.left)
  pub number : OnOk result (new.number ≡ old.number + 1)
