-- Lines that are no record.
use Rattle.std.proofs.Common.{
  ◌≡◌,
  ℕ,
  ◌-◌,
  ◌<◌,
  ◌≤◌,
  ◌⊎◌,
  inl,
  inr,
  Bool,
  true,
  false,
  cond,
  eqb,
  ltb,
  leb,
  length,
  get_or,
  List,
  [],
  ◌∷◌,
  Option,
  None,
  Result,
  Ok,
  Err,
  IsErr,
  refl,
  arith,
}
use Rattle.std.specs.Prelude.{codes}
use Rattle.std.specs.Bool.{OnFalse}
use Rattle.std.specs.List.{slice_split, onto_first}
use Rattle.std.specs.Char.{digit_value}
use Rattle.std.specs.Str.{bytes_eq}
use Rattle.std.proofs.lemmas.Bool.{lt-ltb, le-ltb, cases_lt, ne_eqb, leb-false}
use Rattle.trace_text.specs.Tokens.{words_of, dec, decimal_in, number_in}
use Rattle.trace_text.specs.Rows.{and_then}
use Rattle.trace_text.specs.Records.{record_of}
use Rattle.trace_loop.specs.Progress.{limit_of}
use Rattle.trace_text.specs.Lines.{is_skipped, stepped, step_of, Step, next, item_in, record_in}
use Rattle.trace_text.specs.private.Lines.{IsNoRecord}
use Rattle.reply_text.specs.declared.ends.Reason.{Reason}
use Rattle.reply_text.specs.declared.ends.Reason.TheVariants.{TooLong}
use Rattle.trace_records.specs.declared.Record.{Record}
use Rattle.trace_text.specs.declared.records.Body.{Body}
use Rattle.trace_text.specs.declared.reading.Item.TheVariants.{Skipped, End}
use Rattle.trace_text.specs.declared.reading.Stage.{Stage}
use Rattle.trace_text.specs.declared.reading.Stage.TheVariants.{Running, Ended}

-- too long, skipped, or what the words make
by_bytes : Bool → Bool → Stage → Result Step Reason → Result Step Reason
by_bytes long skipped stage step =
    cond long (Err TooLong) (cond skipped (Ok (record { item = Skipped; stage = stage })) step)

-- a step without a record
record_in-by_bytes : (long skipped : Bool) (stage : Stage) (step : Result Step Reason) → record_in (item_in step) ≡ None
    → record_in (item_in (by_bytes long skipped stage step)) ≡ None
unfolding by_bytes
record_in-by_bytes true skipped stage step none = refl
record_in-by_bytes false true stage step none = refl
record_in-by_bytes false false stage step none = none

record_in-stepped : (stage : Stage) (line : List ℕ) → record_in (item_in (step_of stage line)) ≡ None
    → record_in (item_in (stepped stage line)) ≡ None
unfolding stepped by_bytes
record_in-stepped stage line none =
    record_in-by_bytes (ltb (limit_of line) (length line)) (is_skipped line) stage (step_of stage line) none

-- a line over its limit
record_in-too_long : (stage : Stage) (line : List ℕ) → ltb (limit_of line) (length line) ≡ true
    → record_in (item_in (stepped stage line)) ≡ None
unfolding stepped
record_in-too_long stage line long = rw long refl

-- words that are no record
record_in-running : (body : Body) (line : List ℕ) → IsErr (record_of body (words_of line))
    → record_in (item_in (stepped (Running body) line)) ≡ None
record_in-running body line none =
    record_in-stepped (Running body) line
    (by_end (bytes_eq line (codes "end")) (record_of body (words_of line)) none)
  where
    by_end : (is_end : Bool) (r : Result Record Reason) → IsErr r
        → record_in (item_in (cond is_end (Ok (record { item = End; stage = Ended })) (and_then (next body) r))) ≡ None
    by_end true r none = refl
    by_end false (Ok r) none = cc
    by_end false (Err reason) none = refl

-- a line that begins with no decimal digit has none
decimal_in-none : (c : ℕ) (cs : List ℕ) → 10 ≤ digit_value c → decimal_in (c ∷ cs) ≡ None
unfolding decimal_in number_in
decimal_in-none c [] h = rw (le-ltb (digit_value c) 10 h) refl
decimal_in-none c (d ∷ ds) h = rw (le-ltb (digit_value c) 10 h) (either (eqb c 48))
  where
    either : (zero : Bool) → cond zero (let o : Option ℕ = None in o) None ≡ None
    either true = refl
    either false = refl

dec-none : (c : ℕ) (cs : List ℕ) → 10 ≤ digit_value c → dec (words_of (c ∷ cs)) ≡ None
unfolding words_of decimal_in
dec-none c cs h = by_space (eqb c 32) (slice_split (λ b. eqb b 32) cs)
  where
    by_space : (space : Bool) (ws : List (List ℕ)) → dec (cond space ([] ∷ ws) (onto_first c ws)) ≡ None
    by_space true ws = refl
    by_space false [] = decimal_in-none c [] h
    by_space false (w ∷ ws) = decimal_in-none c w h

dec-empty : dec (words_of []) ≡ None
unfolding words_of decimal_in
dec-empty = refl

-- words whose first is no number
record_of-none : (body : Body) (ws : List (List ℕ)) → dec ws ≡ None → IsErr (record_of body ws)
unfolding record_of
record_of-none body ws none = rw none refl

no_digit : (c : ℕ) → (c < 48) ⊎ (57 < c) → 10 ≤ digit_value c
no_digit c (inl below) = rw (lt-ltb c 48 below) (omega arith)
no_digit c (inr above) = rw (le-ltb c 48 (omega arith), le-ltb c 58 (omega arith)) (letter c above)
  where
    letter : (c : ℕ) → 57 < c
        → 10 ≤ cond (ltb c 65) 36 (cond (ltb c 91) (c - 55) (cond (ltb c 97) 36 (cond (ltb c 123) (c - 87) 36)))
    letter c above = elim (cases_lt c 65) [
      | inl a ↦ rw (lt-ltb c 65 a) (omega arith)
      | inr a ↦ rw (le-ltb c 65 a) (elim (cases_lt c 91) [
        | inl b ↦ rw (lt-ltb c 91 b) (omega arith)
        | inr b ↦ rw (le-ltb c 91 b) (elim (cases_lt c 97) [
          | inl d ↦ rw (lt-ltb c 97 d) (omega arith)
          | inr d ↦ rw (le-ltb c 97 d) (elim (cases_lt c 123) [
            | inl e ↦ rw (lt-ltb c 123 e) (omega arith)
            | inr e ↦ rw (le-ltb c 123 e) (omega arith)
          ])
        ])
      ])
    ]

-- an empty line, and one whose first byte is no digit
pub IsNoRecord-empty : (line : List ℕ) → length line < 1 → IsNoRecord line
IsNoRecord-empty [] none = λ body. record_in-running body [] (record_of-none body (words_of []) dec-empty)
IsNoRecord-empty (c ∷ cs) none = absurd (omega arith)

pub IsNoRecord-first : (line : List ℕ) → (get_or line 0 0 < 48) ⊎ (57 < get_or line 0 0) → IsNoRecord line
IsNoRecord-first [] other = IsNoRecord-empty [] (omega arith)
IsNoRecord-first (c ∷ cs) other = λ body.
    record_in-running body (c ∷ cs)
    (record_of-none body (words_of (c ∷ cs)) (dec-none c cs (no_digit c other)))

-- a line that begins with a digit has the limit of a record
limit_of-digit : (c : ℕ) (cs : List ℕ) → c ≤ 57 → limit_of (c ∷ cs) ≡ 128
unfolding limit_of
limit_of-digit c cs h = rw (ne_eqb c 115 (λ e. omega arith)) refl

pub IsNoRecord-long : (line : List ℕ) → 1 ≤ length line → get_or line 0 0 ≤ 57
    → OnFalse (leb (length line) 128) (IsNoRecord line)
IsNoRecord-long [] some h = absurd (omega arith)
IsNoRecord-long (c ∷ cs) some h = by_test (leb (length (c ∷ cs)) 128) refl
  where
    by_test : (b : Bool) → leb (length (c ∷ cs)) 128 ≡ b → OnFalse b (IsNoRecord (c ∷ cs))
    by_test true is = tt
    by_test false is = λ body.
        let limit : limit_of (c ∷ cs) ≡ 128 = limit_of-digit c cs h in
        let long : 128 < length (c ∷ cs) = leb-false (length (c ∷ cs)) 128 is in
        record_in-too_long (Running body) (c ∷ cs) (lt-ltb (limit_of (c ∷ cs)) (length (c ∷ cs)) (omega arith))
