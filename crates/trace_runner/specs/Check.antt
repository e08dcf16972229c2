-- A trace is read whole and checked while its processors run: what each of its lines does, and what
-- is known at its end. Nothing is printed before that but the line that is refused.
use Rattle.std.specs.Prelude.{
  ℕ,
  ◌+◌,
  ◌≤◌,
  nat_le,
  Bool,
  true,
  false,
  ◌&&◌,
  List,
  [],
  ◌∷◌,
  ◌++◌,
  Result,
  Ok,
  Err,
  if◌then◌else◌,
}
use Rattle.reply_text.specs.declared.ends.Reason.{Reason}
use Rattle.reply_text.specs.declared.ends.Reason.TheVariants.{Steal, Cpu, CounterFell, TooMany}
use Rattle.reply_text.specs.declared.ends.Refused.TheVariants.{Invalid}
use Rattle.trace_text.specs.Lines.{taken, after_line}
use Rattle.trace_text.specs.declared.faults.RecordFault.{RecordFault}
use Rattle.trace_text.specs.declared.reading.Item.{Item}
use Rattle.trace_text.specs.declared.reading.Item.TheVariants.{Skipped, Part, Begun, Next, End}
use Rattle.trace_records.specs.declared.Job.TheVariants.{Ask, Save, Move}
use Rattle.trace_records.specs.declared.Job.{Job}
use Rattle.trace_records.specs.declared.Record.{Record as Written}
use Rattle.trace_loop.specs.Progress.{
  Closing,
  Answer,
  Goes,
  Ends,
  Progress,
  opened,
  after_bytes,
  finished,
}
use Rattle.trace_replay.specs.Ready.{IsReady}
use Rattle.trace_replay.specs.Records.{stops}
use Rattle.trace_replay.specs.Replay.{at_start, record_answer, closing_of, with_header}
use Rattle.trace_runner.specs.Checking.{Checking}
use Rattle.trace_runner.specs.Sound.{IsSound}
use Rattle.race_phase.specs.declared.phases.Phase.{Phase}
use Rattle.trace_runner.specs.Trace.{TraceRead}
use Rattle.trace_blocks.specs.declared.ends.End.{End as PhaseEnd}
use Rattle.trace_blocks.specs.declared.ends.End.TheVariants.{
  Finish,
  Save as BySave,
  Move as ByMove,
}
use Rattle.trace_runner.specs.Checked.{Checked}
use Rattle.trace_runner.specs.Checked.Checked.{Whole, Stopped}
use Rattle.trace_replay.specs.declared.replay.Replay.{Replay}
use Rattle.trace_replay.specs.declared.status.Verdict.{Verdict}

-- a replay of which no record was checked yet
abbrev pub unchecked : Replay → Checking
unchecked r = record { replay = r; opening = r.board; phases = []; last = []; taken = 0 }

-- the phases with one more, which this ends
abbrev pub ended_by : PhaseEnd → Checking → List Phase
ended_by end s = s.phases ++ record { records = s.last; end = end } ∷ []

-- a phase ends: no record came after it yet
abbrev pub with_end : PhaseEnd → Checking → Checking
with_end end s = record s {
  phases = ended_by end s;
  last = [];
  taken = s.taken + 1;
}

-- what a record ends its phase by: a move, or else a save
abbrev pub end_by : ℕ → Written → Job → PhaseEnd
end_by line rec (Move khz start gap) =
    ByMove line rec.cpu rec.h (record { khz = khz; start = start; gap = gap })
end_by line rec job = BySave line rec.cpu rec.h

-- a record is kept, by what it asks: a call is one record more of the phase, and a save and a move end it
abbrev pub kept : ℕ → Written → Job → Checking → Checking
kept line rec (Ask call) s = record s {
  last = s.last ++ record { line = line; cpu = rec.cpu; h = rec.h; call = call } ∷ [];
  taken = s.taken + 1;
}
kept line rec Save s = with_end (BySave line rec.cpu rec.h) s
kept line rec (Move khz start gap) s =
    with_end (ByMove line rec.cpu rec.h (record { khz = khz; start = start; gap = gap })) s

-- a refusal is printed alone
abbrev pub refusal : Closing Verdict → Closing Checked
refusal closing = record { text = closing.text; end = Stopped closing.end }

-- no record is left: 200,000 were taken (own)
abbrev pub is_full : Checking → Bool
is_full s = nat_le 200000 s.taken

-- so a further one is refused
abbrev pub too_many : ℕ → Closing Checked
too_many line = refusal (stops line (Invalid TooMany))

-- a record is answered in file order, as a replay would, and kept
abbrev pub checked_by : Answer Replay Verdict → ℕ → Written → Checking → Answer Checking Checked
checked_by (Goes block r) line rec s = Goes [] (kept line rec rec.job (record s { replay = r }))
checked_by (Ends closing) line rec s = Ends (refusal closing)

-- unless it is one too many
abbrev pub record_checked : ℕ → Written → Checking → Answer Checking Checked
record_checked line rec s =
    if is_full s then Ends (too_many line)
    else checked_by (record_answer line rec s.replay) line rec s

-- a line has a record's form though it is refused, if its reason is one of these
abbrev pub has_form : Reason → Bool
has_form Steal = true
has_form Cpu = true
has_form (CounterFell before) = true
has_form reason = false

-- the trace, read to its end
abbrev pub trace_of : Checking → TraceRead
trace_of s = record {
  opening = s.opening;
  deliveries = s.replay.deliveries;
  phases = ended_by Finish s;
  shows_state = s.replay.shows_state;
}

-- what a line does, by what it is: a line that has a record's form is refused as one too many first
abbrev pub item_checked : ℕ → Item → Checking → Answer Checking Checked
item_checked line Skipped s = Goes [] s
item_checked line Part s = Goes [] s
item_checked line (Begun header) s = Goes [] (unchecked (with_header header s.replay))
item_checked line (Next rec) s = record_checked line rec s
item_checked line End s = Ends (record { text = []; end = Whole (trace_of s) })

-- a line that is refused by its words
abbrev pub fault_checked : ℕ → RecordFault → Checking → Closing Checked
fault_checked line fault s =
    if is_full s && has_form fault.reason then too_many line
    else refusal (stops fault.line (Invalid fault.reason))

-- by what the reader took the line for
abbrev pub taken_checked : ℕ → Result Item RecordFault → Checking → Answer Checking Checked
taken_checked line (Ok item) s = item_checked line item s
taken_checked line (Err fault) s = Ends (fault_checked line fault s)

-- the reader after a line
abbrev pub read_on : List ℕ → Checking → Checking
read_on text s = record s { replay = record s.replay { reading = after_line text s.replay.reading } }

-- what the line of this number does
unfoldable pub check_answer : ℕ → Checking → List ℕ → Answer Checking Checked
check_answer line s text = taken_checked line (taken s.replay.reading text) (read_on text s)

-- a trace that has not ended where its input ends is refused at the next line
abbrev pub check_closing : ℕ → Checking → Closing Checked
check_closing line s = refusal (closing_of line s.replay)

-- all that a check knows after some bytes of a trace
unfoldable pub check_after : Bool → List ℕ → Progress Checking Checked
check_after shows_state bytes = after_bytes check_answer bytes (opened (unchecked (at_start shows_state)))

-- what the check of a trace prints, and what it ends with
unfoldable pub check : Bool → List ℕ → Closing Checked
check shows_state bytes = finished check_answer check_closing (check_after shows_state bytes)

-- what is true before each line
pub record IsCheckReady (line : ℕ) (s : Checking) : Type 0 where
  pub replay : IsReady line s.replay
  pub few : s.taken ≤ 200000
  pub sound : IsSound s
