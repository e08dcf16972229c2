-- What is known, and what was printed, after some bytes of a trace, whatever answers its lines: A
-- is what is kept from line to line, and E how a trace may end.
use Rattle.std.specs.Str.{bytes_eq}
use Rattle.trace_loop.specs.declared.lines.TheConstants.{LINE_MAX, STATE_LINE_MAX}
use Rattle.std.specs.Prelude.{
  ℕ,
  ◌+◌,
  ◌==◌,
  nat_lt,
  List,
  [],
  ◌∷◌,
  ◌++◌,
  length,
  take,
  codes,
  Option,
  Some,
  None,
  if◌then◌else◌,
}

-- how many bytes a line may have without its end: one that begins with `state ` has more
unfoldable pub limit_of : List ℕ → ℕ
limit_of text = if bytes_eq (take 6 text) (codes "state ") then STATE_LINE_MAX else LINE_MAX

-- what ends a trace prints, and how it ends
pub record Closing (E : Type 0) : Type 0 where
  pub text : List ℕ
  pub end : E

-- what a line does: its block is printed, and the trace goes on from a new state; or it ends the
-- trace
pub data Answer (A E : Type 0) : Type 0 where
  Goes : List ℕ → A → Answer A E
  Ends : Closing E → Answer A E

-- after some bytes: the number of the present line and what came of it, the state that will answer
-- it, all that was printed, and how the trace ended, if it did
pub record Progress (A E : Type 0) : Type 0 where
  pub line : ℕ
  pub text : List ℕ
  pub state : A
  pub printed : List ℕ
  pub end : Option E

-- before the first byte
abbrev pub opened : {A E : Type 0} → A → Progress A E
opened a = record { line = 1; text = []; state = a; printed = []; end = None }

-- in a line, of which this came so far
abbrev pub standing : {A E : Type 0} → ℕ → List ℕ → A → List ℕ → Progress A E
standing line text a printed =
    record { line = line; text = text; state = a; printed = printed; end = None }

-- an answer is printed, and the next line begins, or the trace has ended
abbrev pub told : {A E : Type 0} → Answer A E → Progress A E → Progress A E
told (Goes block a) s =
    record { line = s.line + 1; text = []; state = a; printed = s.printed ++ block; end = None }
told (Ends r) s = record s { printed = s.printed ++ r.text; end = Some r.end }

-- the present line is answered, by its number and the state before it
abbrev pub answered : {A E : Type 0} → (ℕ → A → List ℕ → Answer A E) → Progress A E → Progress A E
answered answer s = told (answer s.line s.state s.text) s

-- a line is answered as soon as it is too long
abbrev pub checked : {A E : Type 0} → (ℕ → A → List ℕ → Answer A E) → Progress A E → Progress A E
checked answer s = if nat_lt (limit_of s.text) (length s.text) then answered answer s else s

-- a byte comes: the end of the line has it answered, and any other byte is part of it; a trace that
-- has ended looks at no byte more
abbrev pub heard : {A E : Type 0} → (ℕ → A → List ℕ → Answer A E) → Option E → ℕ → Progress A E
    → Progress A E
heard answer None b s =
    if b == 10 then answered answer s else checked answer (record s { text = s.text ++ b ∷ [] })
heard answer (Some end) b s = s

-- the bytes come, one after the other
abbrev pub after_bytes : {A E : Type 0} → (ℕ → A → List ℕ → Answer A E) → List ℕ → Progress A E
    → Progress A E
after_bytes answer [] s = s
after_bytes answer (b ∷ bs) s = after_bytes answer bs (heard answer s.end b s)

-- the last line is answered, though its end is missing
abbrev pub closed : {A E : Type 0} → (ℕ → A → List ℕ → Answer A E) → Progress A E → Progress A E
closed answer s = if length s.text == 0 then s else heard answer s.end 10 s

-- a trace that has not ended where its input ends is closed at the next line
abbrev pub ran : {A E : Type 0} → (ℕ → A → Closing E) → Option E → Progress A E → Closing E
ran closing None s =
    let r = closing s.line s.state in record { text = s.printed ++ r.text; end = r.end }
ran closing (Some end) s = record { text = s.printed; end = end }

-- what is printed for the whole input, and how the run ends
abbrev pub finished : {A E : Type 0} → (ℕ → A → List ℕ → Answer A E) → (ℕ → A → Closing E)
    → Progress A E → Closing E
finished answer closing s = let t = closed answer s in ran closing t.end t
