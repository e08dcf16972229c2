-- What a call leaves that ends a trace.
use Rattle.std.specs.Prelude.{◌≡◌, ℕ, List, ◌++◌, Option, Some, Result, OnOk, OnErr}
use Rattle.trace_loop.specs.Progress.{Closing}

-- the text of the closing was appended, and `end` is how it ends the trace; after an error the text is
-- as it was
pub record IsClosedBy {E T F : Type 0} (closing : Closing E) (before after : List ℕ) (end : Option E)
    (result : Result T F) : Type 0 where
  pub printed : OnOk result (after ≡ before ++ closing.text)
  pub ends : OnOk result (end ≡ Some closing.end)
  pub err : OnErr result (after ≡ before)
