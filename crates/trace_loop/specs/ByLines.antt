-- The same, line by line: what is printed for whole lines, answered one after the other.
use Rattle.std.specs.List.{slice_split}
use Rattle.std.specs.Prelude.{◌≡◌, ℕ, ◌<◌, ◌==◌, List, [], ◌∷◌, ◌++◌, length, Option, Some, None}
use Rattle.trace_loop.specs.Progress.{limit_of, Closing, Answer, Ends, Progress, answered, ran}

-- an empty part after the end of the last line is no line
abbrev pub without_empty_last : List (List ℕ) → List (List ℕ)
without_empty_last [] = []
without_empty_last ([] ∷ []) = []
without_empty_last ((b ∷ bs) ∷ []) = (b ∷ bs) ∷ []
without_empty_last (part ∷ next ∷ parts) = part ∷ without_empty_last (next ∷ parts)

-- the lines of a trace: cut by the byte 0Ah; what follows the last one is a line too, unless
-- it is empty
unfoldable pub lines_of : List ℕ → List (List ℕ)
lines_of bytes = without_empty_last (slice_split (λ b. b == 10) bytes)

-- a line is answered, unless the trace has ended
abbrev pub line_told : {A E : Type 0} → (ℕ → A → List ℕ → Answer A E) → Option E → List ℕ
    → Progress A E → Progress A E
line_told answer None text s = answered answer (record s { text = text })
line_told answer (Some end) text s = s

-- the lines are answered, and then the input ends
abbrev pub ran_lines : {A E : Type 0} → (ℕ → A → List ℕ → Answer A E) → (ℕ → A → Closing E)
    → List (List ℕ) → Progress A E → Closing E
ran_lines answer closing [] s = ran closing s.end s
ran_lines answer closing (text ∷ texts) s =
    ran_lines answer closing texts (line_told answer s.end text s)

-- a line that is too long ends the trace, whatever follows its first bytes
pub record EndsLong (A E : Type 0) (answer : ℕ → A → List ℕ → Answer A E) : Type 0 where
  pub ending : ℕ → A → List ℕ → Closing E
  pub ends : (line : ℕ) (a : A) (front more : List ℕ) → limit_of front < length front
      → answer line a (front ++ more) ≡ Ends (ending line a front)
