-- The lines of a trace: what each of them is, after those before it.
use Rattle.std.specs.Prelude.{
  ℕ,
  ◌+◌,
  ◌==◌,
  ◌≡◌,
  ◌≤◌,
  nat_lt,
  Bool,
  true,
  List,
  [],
  ◌∷◌,
  length,
  Option,
  Some,
  None,
  is_some,
  IfSome,
  OnSome,
  IfNone,
  unwrap_or,
  Result,
  Ok,
  Err,
  if◌then◌else◌,
  codes,
}
use Rattle.std.specs.Bool.{OnTrue, OnFalse}
use Rattle.std.specs.Option.{option_map_or}
use Rattle.std.specs.Str.{bytes_eq}
use Rattle.trace_loop.specs.Progress.{limit_of}
use Rattle.trace_text.specs.Tokens.{words_of}
use Rattle.trace_text.specs.Rows.{and_then}
use Rattle.trace_text.specs.Records.{record_of, body_after, IsRecord}
use Rattle.trace_text.specs.Header.{first_line, header_line, header_of, body_of, IsHead, IsBegin}
use Rattle.reply_text.specs.declared.ends.Reason.{Reason}
use Rattle.reply_text.specs.declared.ends.Reason.TheVariants.{Form, TooLong, NoEnd}
use Rattle.trace_text.specs.declared.faults.RecordFault.{RecordFault}
use Rattle.trace_text.specs.declared.header.Head.{Head}
use Rattle.trace_records.specs.declared.Record.{Record}
use Rattle.trace_text.specs.declared.records.Body.{Body}
use Rattle.trace_text.specs.declared.reading.Item.{Item}
use Rattle.trace_text.specs.declared.reading.Item.TheVariants.{
  Skipped,
  Part,
  Begun,
  Next as NextItem,
  End,
}
use Rattle.trace_text.specs.declared.reading.Stage.{Stage}
use Rattle.trace_text.specs.declared.reading.Stage.TheVariants.{
  Opening,
  Heading,
  Running,
  Ended,
  Refused,
}
use Rattle.trace_text.specs.declared.reading.ReadingParts.{ReadingParts}

-- an empty line, and one that begins with `#`, is skipped
abbrev pub is_skipped : List ℕ → Bool
is_skipped [] = true
is_skipped (c ∷ cs) = c == 35

-- what a line is, and the stage after it
pub record Step : Type 0 where
  pub item : Item
  pub stage : Stage

abbrev pub met : Record → Stage → Step
met r stage = record { item = NextItem r; stage = stage }

-- a line of the header, before `begin`
abbrev pub part : Head → Result Step Reason
part head = Ok (record { item = Part; stage = Heading head })

-- the trace begins: what its header set up, and what is known before its first record
abbrev pub begun : Head → Step
begun head = record { item = Begun (header_of head); stage = Running (body_of head) }

-- a record, and what is known after it
abbrev pub next : Body → Record → Result Step Reason
next body r = Ok (met r (Running (body_after body r)))

-- by the stage: the first line; a header line or `begin`; a record or `end`
abbrev pub step_of : Stage → List ℕ → Result Step Reason
step_of Opening line = and_then part (first_line (words_of line))
step_of (Heading head) line =
    if bytes_eq line (codes "begin") then Ok (begun head)
    else and_then part (header_line head (words_of line))
step_of (Running body) line =
    if bytes_eq line (codes "end") then Ok (record { item = End; stage = Ended })
    else and_then (next body) (record_of body (words_of line))
step_of Ended line = Err Form
step_of (Refused fault) line = Err fault.reason

-- what a line is by its bytes: too long, skipped, or words
unfoldable pub stepped : Stage → List ℕ → Result Step Reason
stepped stage line =
    if nat_lt (limit_of line) (length line) then Err TooLong
    else if is_skipped line then Ok (record { item = Skipped; stage = stage })
    else step_of stage line

-- the item of a step, and the stage after it
abbrev pub item_in : Result Step Reason → Result Item Reason
item_in (Ok step) = Ok step.item
item_in (Err reason) = Err reason

abbrev pub stage_in : Result Step Reason → Stage → Stage
stage_in (Ok step) old = step.stage
stage_in (Err reason) old = old

-- the answer to a line with this number, and the stage after it: a refusal stays
abbrev pub answer_in : ℕ → Result Step Reason → Result Item RecordFault
answer_in line (Ok step) = Ok step.item
answer_in line (Err reason) = Err (record { line = line; reason = reason })

-- .. and the stage
abbrev pub stage_after : ℕ → Result Step Reason → Stage
stage_after line (Ok step) = step.stage
stage_after line (Err reason) = Refused (record { line = line; reason = reason })

-- the fault of a reader that has refused
abbrev pub fault_of : Stage → Option RecordFault
fault_of (Refused fault) = Some fault
fault_of _ = None

-- before the first line
abbrev pub at_start : ReadingParts
at_start = record { lines = 0; stage = Opening }

-- the answer to the next line: the same fault again, or what the line is after those before it
abbrev pub taken : ReadingParts → List ℕ → Result Item RecordFault
taken r line = option_map_or Err (fault_of r.stage) (answer_in (r.lines + 1) (stepped r.stage line))

-- the record that an item is, if it is one
abbrev pub record_of_item : Item → Option Record
record_of_item Skipped = None
record_of_item Part = None
record_of_item (Begun header) = None
record_of_item (NextItem r) = Some r
record_of_item End = None

-- the record that an answer gives: none for another item, and none for a refusal
abbrev pub record_in : {E : Type 0} → Result Item E → Option Record
record_in (Ok item) = record_of_item item
record_in (Err e) = None

-- the reader after the next line: after a refusal it stays
abbrev pub after_line : List ℕ → ReadingParts → ReadingParts
after_line line r =
    if is_some (fault_of r.stage) then r
    else record { lines = r.lines + 1; stage = stage_after (r.lines + 1) (stepped r.stage line) }

-- what `at_end` answers
abbrev pub end_fault : ReadingParts → RecordFault
end_fault r = unwrap_or (fault_of r.stage) (record { line = r.lines + 1; reason = NoEnd })

-- `end` wasn't taken
abbrev pub IsOpen : Stage → Type 0
IsOpen Opening = Unit {0}
IsOpen (Heading head) = Unit {0}
IsOpen (Running body) = Unit {0}
IsOpen Ended = ⊥
IsOpen (Refused fault) = Unit {0}

-- no record may stand there
abbrev pub IsEarly : Stage → Type 0
IsEarly Opening = Unit {0}
IsEarly (Heading head) = Unit {0}
IsEarly (Running body) = ⊥
IsEarly Ended = Unit {0}
IsEarly (Refused fault) = Unit {0}

-- what is known at each stage
abbrev pub IsStage : Stage → Type 0
IsStage Opening = Unit {0}
IsStage (Heading head) = IsHead head
IsStage (Running body) = body.cpus ≤ 64
IsStage Ended = Unit {0}
IsStage (Refused fault) = Unit {0}

abbrev pub IsReading : ReadingParts → Type 0
IsReading r = IsStage r.stage

-- what is known of a record at a stage
abbrev pub IsRecordAt : Stage → Record → Type 0
IsRecordAt Opening r = ⊥
IsRecordAt (Heading head) r = ⊥
IsRecordAt (Running body) r = IsRecord body r
IsRecordAt Ended r = ⊥
IsRecordAt (Refused fault) r = ⊥

-- and of an item: setup and routes are in range, a record's access is one that the board takes
abbrev pub IsItem : Stage → Item → Type 0
IsItem stage Skipped = Unit {0}
IsItem stage Part = Unit {0}
IsItem stage (Begun header) = IsBegin header.begin header.routes
IsItem stage (NextItem r) = IsRecordAt stage r
IsItem stage End = Unit {0}

-- a record was asked for of a line: where one was taken it is what the line is, and `new` is the reader
-- after it; else the reader has stayed
pub record HasTaken {A : Type 0} (of : A → Record) (old : ReadingParts) (line : List ℕ)
    (result : Option A) (new : ReadingParts) : Type 0 where
  pub item : IfSome result (λ a. taken old line ≡ Ok (NextItem (of a)))
  pub state : OnSome result (new ≡ after_line line old)
  pub valid : IfSome result (λ a. IsRecordAt old.stage (of a))
  pub is_open : OnSome result (IsOpen new.stage)
  pub none : IfNone result (new ≡ old)

-- the same where it is read into a place: the line is no record where the answer is false
pub record HasRead (old : ReadingParts) (line : List ℕ) (result : Bool) (into : Record)
    (new : ReadingParts) : Type 0 where
  pub item : OnTrue result (taken old line ≡ Ok (NextItem into))
  pub cause : OnFalse result (record_in (taken old line) ≡ None)
  pub state : OnTrue result (new ≡ after_line line old)
  pub valid : OnTrue result (IsRecordAt old.stage into)
  pub is_open : OnTrue result (IsOpen new.stage)
  pub none : OnFalse result (new ≡ old)
