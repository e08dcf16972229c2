-- Small rows that pin the definitions: a toy that prints each line after a colon, and ends at the line `end`.
use Rattle.std.proofs.Common.{◌≡◌, ℕ, List, [], ◌∷◌, ◌++◌, cond, codes, Some, None, map, refl, replicate}
use Rattle.std.specs.Str.{bytes_eq}
use Rattle.trace_loop.specs.ByLines.{lines_of}
use Rattle.trace_loop.specs.Progress.{limit_of, Closing, Answer, Goes, Ends, Progress, opened, after_bytes, finished}

-- empty lines count, and the last line's end begins no line
lines : map lines_of (codes "a\n\nb" ∷ codes "a\n" ∷ []) ≡ (codes "a" ∷ [] ∷ codes "b" ∷ []) ∷ (codes "a" ∷ []) ∷ []
unfolding lines_of
lines = refl

-- a line has at most 128 bytes, and more after `state` and a space
limits : map limit_of (codes "0 0 step" ∷ codes "state 00" ∷ codes "state" ∷ []) ≡ 128 ∷ 200000 ∷ 128 ∷ []
unfolding limit_of
limits = refl

-- the toy: it counts the lines, and its end says how many there were
abbrev toy : ℕ → ℕ → List ℕ → Answer ℕ ℕ
toy line count text =
    cond (bytes_eq text (codes "end")) (Ends (record { text = codes "!"; end = line })) (Goes (codes ":" ++ text) line)

abbrev toy_closing : ℕ → ℕ → Closing ℕ
toy_closing line count = record { text = codes "?"; end = 0 }

abbrev toy_after : List ℕ → Progress ℕ ℕ
toy_after bytes = after_bytes toy bytes (opened 0)

-- part of a line isn't answered, nor are bytes after the end
parts_of_an_input : map toy_after (codes "a\nb" ∷ codes "end\nmore" ∷ [])
    ≡ record { line = 2; text = codes "b"; state = 1; printed = codes ":a"; end = None }
    ∷ record { line = 1; text = codes "end"; state = 0; printed = codes "!"; end = Some 1 } ∷ []
unfolding limit_of
parts_of_an_input = refl

-- the last line needs no end of a line, and an input without the line `end` is closed
whole_inputs : map (λ bytes. finished toy toy_closing (toy_after bytes)) (codes "a\nend" ∷ codes "a\n" ∷ [])
    ≡ record { text = codes ":a!"; end = 2 } ∷ record { text = codes ":a?"; end = 0 } ∷ []
unfolding limit_of
whole_inputs = refl

-- a line is answered where it exceeds its limit
excess : map (λ n. (toy_after (replicate n 120)).line) (128 ∷ 130 ∷ []) ≡ 1 ∷ 2 ∷ []
unfolding limit_of
excess = refl
