-- The place of a run over lines that began with these ends and goes on.
use Rattle.std.specs.Prelude.{◌≡◌, ◌≢◌, ℕ, Bool, false, ◌+◌, ◌-◌, ◌^◌, ◌<◌, ◌≤◌, List, ◌++◌, length, take, Option, None}
use Rattle.std.specs.Io.KnownBytes.{Consumes}
use Rattle.board_io.specs.Ends.{Grows, Input, Output, Gave, Gives, Held}
use Rattle.board_io.specs.Faults.{Rose}
use Rattle.trace_loop.specs.Progress.{Closing, Answer, Progress, opened, standing, after_bytes}
use Rattle.trace_loop.specs.Outcome.{run_over, Outcome}
use Rattle.trace_loop.specs.declared.ended.Ended.{Ended}
use Rattle.trace_loop.specs.declared.ended.Ended.TheVariants.{SourceFault, SinkFault}
use Rattle.trace_loop.specs.declared.feed.Feed.{Feed}

-- what is known of a source and a sink
pub record BothEnds : Type 0 where
  pub remaining : Option (List ℕ)
  pub read : List ℕ
  pub ends : ℕ
  pub given : ℕ
  pub before : ℕ
  pub faults : ℕ
  pub done : Bool
  pub late : Bool
  pub contents : Held
  pub sink_faults : ℕ

-- .. of the source
abbrev pub source_of : BothEnds → Input
source_of ends = record {
  remaining = ends.remaining;
  read = ends.read;
  ends = ends.ends;
  given = ends.given;
  before = ends.before;
  done = ends.done;
  late = ends.late;
  faults = ends.faults;
}

-- what was put before the source was called last is what was printed after the bytes that it had
-- given
pub record IsAsked (A E : Type 0) (answer : ℕ → A → List ℕ → Answer A E) (a : A)
    (input put : List ℕ) (before place : ℕ) : Type 0 where
  pub least : before ≤ place
  pub printed_ : (after_bytes answer (take before input) (opened a)).printed ≡ put
  pub going : (after_bytes answer (take before input) (opened a)).end ≡ None

-- the place of a run in an input: `bytes` are answered or are part of the present line, `left` was
-- given and is to be read, and `rest` is to be given; `put` was put, and `out` is to be
pub record Stands (A E : Type 0) (answer : ℕ → A → List ℕ → Answer A E) (a : A)
    (input left rest put out : List ℕ) (given before : ℕ) (s : Progress A E) : Type 0 where
  pub bytes : List ℕ
  pub whole : input ≡ (bytes ++ left) ++ rest
  pub count : length bytes + length left ≡ given
  pub there : after_bytes answer bytes (opened a) ≡ s
  pub asked : 0 < given + length out → IsAsked A E answer a input put before (length bytes)

-- a run that began in state `a` with the ends `start` goes on, and is here now
pub record IsGoing (A E : Type 0) (answer : ℕ → A → List ℕ → Answer A E) (a : A) (start : BothEnds)
    (state : A) (feed : Feed) (now : BothEnds) : Type 0 where
  pub bytes : List ℕ
  pub read : now.read ≡ start.read ++ bytes
  pub ends : now.ends ≡ start.ends
  pub known : Consumes start.remaining now.remaining bytes
  pub put : List ℕ
  pub puts : Grows start.contents now.contents put
  pub place : (rest : List ℕ) → Stands A E answer a (bytes ++ rest) feed.lines.left rest put feed.out.items
      (now.given - start.given) (now.before - start.given)
      (standing (feed.lines.number + 1) feed.lines.text state (put ++ feed.out.items))
  pub lines : feed.lines.number + length feed.lines.left ≤ now.given - start.given
  pub more : start.given ≤ now.given
  pub quiet : start.done ≡ false → start.late ≡ false
      → (now.done ≡ false) × (now.late ≡ false)
  pub source_faults : now.faults ≡ start.faults
  pub sink_faults : now.sink_faults ≡ start.sink_faults

-- a run that began so is over
pub record IsOver (A E : Type 0) (answer : ℕ → A → List ℕ → Answer A E)
    (closing : ℕ → A → Closing E) (a : A) (start now : BothEnds) (ended : Ended E) : Type 0 where
  pub gives : Gives (source_of start) (source_of now)
  pub outcome : (input : List ℕ) → Gave (source_of start) (source_of now) input
      → Outcome (run_over answer closing a input (source_of start) (source_of now)) ended
      start.contents now.contents
  pub stopped : (input : List ℕ) → Gave (source_of start) (source_of now) input
      → (after_bytes answer (take (now.before - start.given) input) (opened a)).end ≡ None
  pub once : start.done ≡ false → start.late ≡ false → now.late ≡ false
  pub well : ended ≢ SourceFault → ended ≢ SinkFault → now.faults ≡ start.faults
  pub source_fault : ended ≡ SourceFault → Rose start.faults now.faults
  pub sink_fault : ended ≡ SinkFault → Rose start.sink_faults now.sink_faults
  pub sink_well : ended ≢ SinkFault → now.sink_faults ≡ start.sink_faults

-- what is known of both ends
abbrev pub ends_of : Input → Output → BothEnds
ends_of source sink = record {
  remaining = source.remaining;
  read = source.read;
  ends = source.ends;
  given = source.given;
  before = source.before;
  faults = source.faults;
  done = source.done;
  late = source.late;
  contents = sink.contents;
  sink_faults = sink.faults;
}

-- a run that began with this state is over
abbrev pub RunEnds : {A E : Type 0} → (ℕ → A → List ℕ → Answer A E) → (ℕ → A → Closing E) → A
    → BothEnds → BothEnds → Ended E → Type 0
RunEnds {A} {E} answer closing a start now ended = IsOver A E answer closing a start now ended

-- the lines that were handed out, and the bytes that are left, were given, and there is room for
-- their numbers
abbrev pub IsFed : Feed → ℕ → Type 0
IsFed feed given =
    (feed.lines.number + length feed.lines.left ≤ given)
    × (feed.lines.number + length feed.lines.left ≤ 2 ^ 62)
