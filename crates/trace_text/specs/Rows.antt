-- Rows of a table of lines: a name, and what the words after it make.
use Rattle.std.specs.Prelude.{ℕ, List, [], ◌∷◌, Option, Result, Ok, Err, if◌then◌else◌}
use Rattle.std.specs.Option.{ok_or}
use Rattle.trace_text.specs.Tokens.{rest, starts}
use Rattle.reply_text.specs.declared.ends.Reason.{Reason}
use Rattle.reply_text.specs.declared.ends.Reason.TheVariants.{Form}

-- what a value makes, if there is one; else the reason stays
abbrev pub and_then : {A T : Type 0} → (A → Result T Reason) → Result A Reason → Result T Reason
and_then makes (Ok x) = makes x
and_then makes (Err reason) = Err reason

-- a token stands first; its value makes of the words after it what the row says
abbrev pub place : {A T : Type 0} → (List (List ℕ) → Option A)
    → (A → List (List ℕ) → Result T Reason) → List (List ℕ) → Result T Reason
place token means ws = and_then (λ x. means x (rest ws)) (ok_or (token ws) Form)

-- no word is left
abbrev pub last : {T : Type 0} → Result T Reason → List (List ℕ) → Result T Reason
last answer [] = answer
last answer (w ∷ ws) = Err Form

-- a row of a table
pub record Row (T : Type 0) : Type 0 where
  pub name : List ℕ
  pub means : List (List ℕ) → Result T Reason

-- a row of this name
abbrev pub row : {T : Type 0} → List ℕ → (List (List ℕ) → Result T Reason) → Row T
row name means = record { name = name; means = means }

-- what words make by a table: its first row with the name of the first word decides
abbrev pub by_table : {T : Type 0} → List (Row T) → List (List ℕ) → Result T Reason
by_table [] ws = Err Form
by_table (r ∷ rs) ws = if starts r.name ws then r.means (rest ws) else by_table rs ws

-- what words make that were taken in place: what they left, or why they are refused
abbrev pub left_by : {T : Type 0} → Result Unit Reason → T → Result T Reason
left_by (Ok u) left = Ok left
left_by (Err reason) left = Err reason
