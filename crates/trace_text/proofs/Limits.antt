-- Limits of lines.
use Rattle.std.proofs.Common.{◌≡◌, ℕ, Bool, true, false, ltb, leb, length, List, refl, arith}
use Rattle.std.specs.Bool.{OnTrue}
use Rattle.std.proofs.lemmas.Bool.{le-ltb, leb-true}
use Rattle.trace_loop.specs.Progress.{limit_of}
use Rattle.trace_loop.proofs.Progresses.{limit_least}

-- a short line is within it
pub within_limit : (line : List ℕ) → OnTrue (leb (length line) 128) (ltb (limit_of line) (length line) ≡ false)
within_limit line = by_test (leb (length line) 128) refl
  where
    by_test : (b : Bool) → leb (length line) 128 ≡ b → OnTrue b (ltb (limit_of line) (length line) ≡ false)
    by_test true is = le-ltb (limit_of line) (length line) (omega (arith, leb-true (length line) 128 is, limit_least line))
    by_test false is = tt
