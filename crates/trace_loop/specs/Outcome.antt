-- What a run over lines has written when it ends.
use Rattle.std.specs.Prelude.{◌≡◌, ◌≢◌, ℕ, ◌-◌, ◌≤◌, false, List, ◌++◌, take, None, ◌⊎◌}
use Rattle.std.specs.Prelude.{Result, OnOk, OnErr}
use Rattle.board_io.specs.Ends.{Grows, Input, Output, Gave, Gives, Held}
use Rattle.board_io.specs.Faults.{Rose}
use Rattle.trace_loop.specs.Text.{source_fault_text, memory_fault_text}
use Rattle.trace_loop.specs.Progress.{Closing, Answer, Progress, opened, after_bytes, finished}
use Rattle.trace_loop.specs.declared.ended.Ended.{Ended}
use Rattle.trace_loop.specs.declared.ended.Ended.TheVariants.{By, SourceFault, SinkFault, NoMemory}

-- a text begins with another
abbrev pub Begins : List ℕ → List ℕ → Type 0
Begins front text = (more : List ℕ) × (text ≡ front ++ more)

-- a run over an input: the progress after its first bytes, by their number; what is printed for
-- the whole of it; and the source before the run and after it
pub record Run (A E : Type 0) : Type 0 where
  pub at : ℕ → Progress A E
  pub whole : Closing E
  pub start : Input
  pub end : Input

-- the run over an input, by the progress after bytes and what is printed for all of them; the source
-- was `start` before the run and is `end` after it
abbrev pub run_of : {A E : Type 0} → (List ℕ → Progress A E) → (List ℕ → Closing E) → List ℕ
    → Input → Input → Run A E
run_of after whole input start end =
    record { at = λ k. after (take k input); whole = whole input; start = start; end = end }

-- the run of what answers lines and closes an input so, from this state
abbrev pub run_over : {A E : Type 0} → (ℕ → A → List ℕ → Answer A E) → (ℕ → A → Closing E) → A
    → List ℕ → Input → Input → Run A E
run_over answer closing a =
    run_of (λ bytes. after_bytes answer bytes (opened a))
    (λ bytes. finished answer closing (after_bytes answer bytes (opened a)))

-- the whole text
abbrev pub IsText : {A E : Type 0} → Run A E → List ℕ → Type 0
IsText w text = (text ≡ w.whole.text) × (w.end.faults ≡ w.start.faults)

-- the source failed: the blocks of all that was given, after which the trace has not ended, and
-- the word of the fault
abbrev pub IsSourceFault : {A E : Type 0} → Run A E → List ℕ → Type 0
IsSourceFault w text =
    let s = w.at (w.end.given - w.start.given) in
    (text ≡ s.printed ++ source_fault_text) × (s.end ≡ None) × Rose w.start.faults w.end.faults

-- memory ran out: the blocks of whole lines, at least of those that were given before the last
-- call, and the word of it
abbrev pub IsMemoryFault : {A E : Type 0} → Run A E → List ℕ → Type 0
IsMemoryFault w text =
    (k : ℕ) × (text ≡ (w.at k).printed ++ memory_fault_text)
    × (w.end.before - w.start.given ≤ k) × (k ≤ w.end.given - w.start.given)
    × ((w.at k).end ≡ None)
    × (w.end.faults ≡ w.start.faults)

-- the sink failed: it has all blocks of what was given before the last call, and a prefix of
-- what was to come
abbrev pub IsCutOff : {A E : Type 0} → Run A E → List ℕ → Type 0
IsCutOff w cut =
    Begins (w.at (w.end.before - w.start.given)).printed cut
    × ((text : List ℕ) × (IsText w text ⊎ (IsSourceFault w text ⊎ IsMemoryFault w text))
    × Begins cut text)

-- what a run that ended so has appended to the sink
abbrev pub Outcome : {A E : Type 0} → Run A E → Ended E → Held → Held → Type 0
Outcome w (By end) old new =
    (end ≡ w.whole.end) × ((text : List ℕ) × IsText w text × Grows old new text)
Outcome w SourceFault old new = (text : List ℕ) × IsSourceFault w text × Grows old new text
Outcome w NoMemory old new = (text : List ℕ) × IsMemoryFault w text × Grows old new text
Outcome w SinkFault old new = (cut : List ℕ) × IsCutOff w cut × Grows old new cut

-- what a call leaves of its sink that answers `fault` where the sink failed: otherwise it has no fault
-- more, and took each call; and it isn't called again after a call that failed
pub record KeepsSink {R : Type 0} (fault result : R) (before after : Output) : Type 0 where
  pub well : result ≢ fault → after.faults ≡ before.faults
  pub quiet : result ≢ fault → after.done ≡ before.done
  pub once : before.done ≡ false → before.late ≡ false → after.late ≡ false

-- what a call leaves of both ends that answers one of two faults where its source or its sink failed:
-- whose fault it was, and that neither is called again after a call that gave nothing or failed
pub record KeepsEnds {R : Type 0} (no_source no_sink result : R) (start end : Input)
    (before after : Output) : Type 0 where
  pub once : start.done ≡ false → start.late ≡ false → end.late ≡ false
  pub well : result ≢ no_source → result ≢ no_sink → end.faults ≡ start.faults
  pub source_fault : result ≡ no_source → Rose start.faults end.faults
  pub sink_fault : result ≡ no_sink → Rose before.faults after.faults
  pub sink : KeepsSink no_sink result before after

-- what a run over lines leaves of its source and its sink, by how they were before it: for each input
-- that the source may have had, what is written, and that the trace had not ended before the source was
-- called last; an input that was known before is one of them; and whose fault it is that it ends in a fault
pub record Leaves {A E : Type 0} (answer : ℕ → A → List ℕ → Answer A E)
    (closing : ℕ → A → Closing E) (a : A) (start end : Input) (before after : Output)
    (ended : Ended E) : Type 0 where
  pub gives : Gives start end
  pub outcome : (input : List ℕ) → Gave start end input
      → Outcome (run_over answer closing a input start end) ended before.contents after.contents
  pub stopped : (input : List ℕ) → Gave start end input
      → (after_bytes answer (take (end.before - start.given) input) (opened a)).end ≡ None
  pub ends : KeepsEnds SourceFault SinkFault ended start end before after

-- what a call leaves of a sink that a text was put into: all of it, or a prefix where the sink
-- failed; faults are counted, and it isn't called again after a call that failed
pub record IsPutAll {T E : Type 0} (before after : Output) (text : List ℕ) (result : Result T E)
    : Type 0 where
  pub all : OnOk result (Grows before.contents after.contents text)
  pub cut : OnErr result ((cut : List ℕ) × Begins cut text
      × Grows before.contents after.contents cut)
  pub well : OnOk result (after.faults ≡ before.faults)
  pub quiet : OnOk result (after.done ≡ before.done)
  pub once : before.done ≡ false → before.late ≡ false → after.late ≡ false
  pub counted : before.faults ≤ after.faults
  pub failed : OnErr result (Rose before.faults after.faults)

-- the whole text was written, and this is the answer; or the sink failed, which showed, and took
-- a prefix of it
abbrev pub SaidOr : {R : Type 0} → R → R → R → Held → Held → List ℕ → Type 0
    → Type 0
SaidOr fault end result old new text shown =
    ((result ≡ end) × Grows old new text)
    ⊎ ((result ≡ fault) × shown × ((cut : List ℕ) × Begins cut text × Grows old new cut))

-- the same of the end of a run
abbrev pub Said : {E : Type 0} → Ended E → Ended E → Held → Held → List ℕ
    → Type 0 → Type 0
Said end result old new text shown = SaidOr SinkFault end result old new text shown

-- what a call leaves that puts a text into a sink and answers `end`, or `fault` where the sink failed
pub record IsSaid {R : Type 0} (fault end result : R) (before after : Output) (text : List ℕ)
    : Type 0 where
  pub said : SaidOr fault end result before.contents after.contents text
      (Rose before.faults after.faults)
  pub sink : KeepsSink fault result before after
  pub counted : before.faults ≤ after.faults
