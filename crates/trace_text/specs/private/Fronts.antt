-- What a line begins with that was read to its counter.
use Rattle.std.specs.Prelude.{ℕ, ◌≡◌, List, Some, false, codes, length, nat_lt}
use Rattle.std.specs.Str.{bytes_eq}
use Rattle.trace_loop.specs.Progress.{limit_of}
use Rattle.trace_text.specs.Lines.{is_skipped}
use Rattle.trace_text.specs.Tokens.{words_of, dec, rest}

-- the line is of words, and isn't `end`; the first two are these numbers, and `bytes` has the others
pub record IsFront (line : List ℕ) (p h : ℕ) (bytes : List ℕ) : Type 0 where
  pub within : nat_lt (limit_of line) (length line) ≡ false
  pub words : is_skipped line ≡ false
  pub record_line : bytes_eq line (codes "end") ≡ false
  pub cpu : dec (words_of line) ≡ Some p
  pub counter : dec (rest (words_of line)) ≡ Some h
  pub left : rest (rest (words_of line)) ≡ words_of bytes
