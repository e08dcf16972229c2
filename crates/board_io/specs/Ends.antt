-- What is known of a source and of a sink, and what one call of each gives.
use Rattle.std.specs.Prelude.{◌≡◌, ℕ, ◌<◌, ◌≤◌, ◌||◌, ◌⊎◌, Bool, List, [], ◌++◌, length, take, drop, Option, Some, Result}
use Rattle.std.specs.Prelude.{IfOk, OnOk, OnErr, IsErr, is_err, MatchResult}
use Rattle.std.specs.Io.KnownBytes.{ReadConsumes, Appends, Keeps}
use Rattle.byte_log.specs.Calls.{Call, bytes_in, ends_in, failures_in, before_last, is_done, is_late}
use Rattle.board_io.specs.Faults.{Rose, most_given, AddsGiven, CountsEnds, gave_nothing}

-- a source: the bytes that are left, where they are known; all that it has given, and how many of its
-- calls were at the end of the input; how many bytes it has given, and how many it had given when it was
-- called last; whether a call gave nothing, since it failed or was at the end of the input, and whether
-- one came after such a call; and how many faults it has had
pub record Input : Type 0 where
  pub remaining : Option (List ℕ)
  pub read : List ℕ
  pub ends : ℕ
  pub given : ℕ
  pub before : ℕ
  pub done : Bool
  pub late : Bool
  pub faults : ℕ

-- a source with these bytes left, by the log of its calls
abbrev pub input_of : Option (List ℕ) → List Call → Input
input_of bytes calls = record {
  remaining = bytes;
  read = bytes_in calls;
  ends = ends_in calls;
  given = length (bytes_in calls);
  before = length (bytes_in (before_last calls));
  done = is_done calls;
  late = is_late calls;
  faults = failures_in calls;
}

-- a call that put bytes at the front of `into`, and answered how many
pub record IsTaken {E : Type 0} (old new : Input) (result : Result ℕ E) (into : List ℕ) : Type 0 where
  pub bound : IfOk result (λ n. n ≤ length into)
  pub bytes : ReadConsumes old.remaining new.remaining result into
  pub read : MatchResult result (λ n. new.read ≡ old.read ++ take n into) (λ _. new.read ≡ old.read)
  pub ends : CountsEnds old.ends new.ends result
  pub given : AddsGiven old.given new.given result
  pub before : new.before ≡ old.given
  pub done : new.done ≡ (old.done || gave_nothing result)
  pub late : new.late ≡ (old.late || old.done)
  pub limit : OnOk result (new.given ≤ most_given)
  pub spent : old.given ≡ most_given → IsErr result
  pub counted : old.faults ≤ new.faults
  pub well : OnOk result (new.faults ≡ old.faults)
  pub failed : OnErr result (Rose old.faults new.faults)

-- what a source gave between two moments
abbrev pub given_in : Input → Input → List ℕ
given_in start end = drop (length start.read) end.read

-- the input from the first moment on can have been this one: it begins with what the source gave since,
-- and has no more if a call since then was at its end
abbrev pub Gave : Input → Input → List ℕ → Type 0
Gave start end input =
    (rest : List ℕ) × (input ≡ given_in start end ++ rest) × ((end.ends ≡ start.ends) ⊎ (rest ≡ []))

-- between two moments a source gave bytes, and an input that was known at the first is one that it can
-- have had
pub record Gives (start end : Input) : Type 0 where
  pub grows : (bytes : List ℕ) × (end.read ≡ start.read ++ bytes)
  pub known : (input : List ℕ) → start.remaining ≡ Some input → Gave start end input

-- what a sink holds: its bytes, where they are known; and those that it has accepted in its calls
pub record Held : Type 0 where
  pub known : Option (List ℕ)
  pub accepted : List ℕ

-- it grew by these bytes
abbrev pub Grows : Held → Held → List ℕ → Type 0
Grows old new bytes = Appends old.known new.known bytes × (new.accepted ≡ old.accepted ++ bytes)

-- it stayed
abbrev pub Stays : Held → Held → Type 0
Stays old new = Keeps old.known new.known × (new.accepted ≡ old.accepted)

-- a sink: what it holds; whether a call failed, and whether one came after such a call; and how many
-- faults it has had
pub record Output : Type 0 where
  pub contents : Held
  pub done : Bool
  pub late : Bool
  pub faults : ℕ

-- a sink with these bytes, by the log of its calls
abbrev pub output_of : Option (List ℕ) → List Call → Output
output_of bytes calls = record {
  contents = record { known = bytes; accepted = bytes_in calls };
  done = is_done calls;
  late = is_late calls;
  faults = failures_in calls;
}

-- a call that took bytes from the front of `piece`, and answered how many
pub record IsPut {E : Type 0} (old new : Output) (result : Result ℕ E) (piece : List ℕ) : Type 0 where
  pub some : IfOk result (λ n. 0 < n)
  pub bound : IfOk result (λ n. n ≤ length piece)
  pub bytes : MatchResult result (λ n. Grows old.contents new.contents (take n piece))
      (λ _. Stays old.contents new.contents)
  pub done : new.done ≡ (old.done || is_err result)
  pub late : new.late ≡ (old.late || old.done)
  pub well : OnOk result (new.faults ≡ old.faults)
  pub counted : old.faults ≤ new.faults
  pub failed : OnErr result (Rose old.faults new.faults)
