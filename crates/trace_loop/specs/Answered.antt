-- What a call leaves that answers a line.
use Rattle.std.specs.Prelude.{◌≡◌, ℕ, List, ◌++◌, Option, Some, None, Result, OnOk, OnErr}
use Rattle.std.specs.Io.{StartsWith}
use Rattle.trace_loop.specs.Progress.{Answer, Goes, Ends}

-- what an answer prints
abbrev pub printed : {A E : Type 0} → Answer A E → List ℕ
printed (Goes text a) = text
printed (Ends r) = r.text

-- how it ends the trace, if it does
abbrev pub end_of : {A E : Type 0} → Answer A E → Option E
end_of (Goes text a) = None
end_of (Ends r) = Some r.end

-- the state after it
abbrev pub state_after : {A E : Type 0} → Answer A E → A → A
state_after (Goes text a) old = a
state_after (Ends r) old = old

-- the answer x was given from a state into the one after it, unless it ends the trace: what it prints
-- was appended to a text, and `end` is how it ends the trace, if it does; after an error the text
-- begins as it was
pub record IsAnswered {A E T F : Type 0} (x : Answer A E) (old new : A) (before after : List ℕ)
    (end : Option E) (result : Result T F) : Type 0 where
  pub printed : OnOk result (after ≡ before ++ printed x)
  pub ends : OnOk result (end ≡ end_of x)
  pub state : OnOk result (end ≡ None → new ≡ state_after x old)
  pub err : OnErr result (StartsWith after before)
