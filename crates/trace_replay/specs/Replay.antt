-- What the lines of a trace do, and what is printed for a trace.
use Rattle.std.specs.Prelude.{
  ℕ,
  Bool,
  replicate,
  List,
  [],
  ◌++◌,
  None,
  Result,
  Ok,
  Err,
  if◌then◌else◌,
}
use Rattle.board_io.specs.Ends.{Input}
use Rattle.board_types.specs.Setup.{setup_by_default}
use Rattle.board_types.specs.declared.parts.BoardParts.{BoardParts}
use Rattle.board_devices.specs.Lines.{levels}
use Rattle.board_core.specs.Time.{devices_in, now_of}
use Rattle.board_core.specs.PowerOn.{board_at_power_on}
use Rattle.save_state.specs.Writing.{bytes_of}
use Rattle.reply_text.specs.Text.{final_text, state_text}
use Rattle.reply_text.specs.declared.ends.Refused.TheVariants.{Invalid}
use Rattle.trace_text.specs.Header.{board_of}
use Rattle.trace_text.specs.Lines.{at_start as reading_at_start, taken, after_line, end_fault}
use Rattle.trace_text.specs.declared.faults.RecordFault.{RecordFault}
use Rattle.trace_text.specs.declared.header.Header.{Header}
use Rattle.trace_text.specs.declared.reading.Item.{Item}
use Rattle.trace_text.specs.declared.reading.Item.TheVariants.{Skipped, Part, Begun, Next, End}
use Rattle.trace_records.specs.declared.Record.{Record}
use Rattle.trace_loop.specs.Progress.{
  Closing,
  Answer,
  Goes,
  Ends,
  Progress,
  opened,
  after_bytes,
  finished,
}
use Rattle.trace_loop.specs.Outcome.{Run, run_of}
use Rattle.trace_replay.specs.Deliveries.{deliveries_of}
use Rattle.trace_replay.specs.Records.{stops, job_answer}
use Rattle.trace_replay.specs.declared.replay.Replay.{Replay}
use Rattle.trace_replay.specs.declared.status.Verdict.{Verdict}
use Rattle.trace_replay.specs.declared.status.Verdict.TheVariants.{Done}

-- a replay before its first line: no line asks its board, and none has a route
abbrev pub at_start : Bool → Replay
at_start shows_state = record {
  reading = reading_at_start;
  shows_state = shows_state;
  board = board_at_power_on (setup_by_default 1);
  deliveries = record { cpus = 1; lines = replicate 6 None };
}

-- the line that ends a trace: the time, the accesses, the greatest clock reading, the lines that
-- are up
abbrev pub final_of : BoardParts → List ℕ
final_of b = final_text (now_of b) b.accesses b.greatest (record { levels = levels (devices_in b) })

-- and after it, where that is asked, the board's state
abbrev pub ended : Bool → BoardParts → Closing Verdict
ended shows_state b = record {
  text = if shows_state then final_of b ++ state_text (bytes_of b) else final_of b;
  end = Done;
}

-- the answer to a record, with the board put back
abbrev pub with_board : Answer BoardParts Verdict → Replay → Answer Replay Verdict
with_board (Goes text b) r = Goes text (record r { board = b })
with_board (Ends closing) r = Ends closing

-- a record, by what it asks of the board
abbrev pub record_answer : ℕ → Record → Replay → Answer Replay Verdict
record_answer line rec r =
    with_board (job_answer line rec.cpu rec.h rec.job r.deliveries r.board) r

-- a replay after this header
abbrev pub with_header : Header → Replay → Replay
with_header header r = record r {
  board = board_of header.begin;
  deliveries = deliveries_of (board_of header.begin).cpus header.routes;
}

-- what a line does, by what it is
abbrev pub item_answer : ℕ → Item → Replay → Answer Replay Verdict
item_answer line Skipped r = Goes [] r
item_answer line Part r = Goes [] r
item_answer line (Begun header) r = Goes [] (with_header header r)
item_answer line (Next rec) r = record_answer line rec r
item_answer line End r = Ends (ended r.shows_state r.board)

-- or that it is refused
abbrev pub taken_answer : ℕ → Result Item RecordFault → Replay → Answer Replay Verdict
taken_answer line (Ok item) r = item_answer line item r
taken_answer line (Err fault) r = Ends (stops fault.line (Invalid fault.reason))

-- what the line of this number does
unfoldable pub answer_of : ℕ → Replay → List ℕ → Answer Replay Verdict
answer_of line r text =
    taken_answer line (taken r.reading text) (record r { reading = after_line text r.reading })

-- a trace that has not ended where its input ends is refused at the next line
abbrev pub closing_of : ℕ → Replay → Closing Verdict
closing_of line r = stops (end_fault r.reading).line (Invalid (end_fault r.reading).reason)

-- all that a replay knows and has printed after some bytes of a trace
unfoldable pub progress_after : Bool → List ℕ → Progress Replay Verdict
progress_after shows_state bytes = after_bytes answer_of bytes (opened (at_start shows_state))

-- what is printed for a trace, and how it ends
unfoldable pub replay : Bool → List ℕ → Closing Verdict
replay shows_state bytes = finished answer_of closing_of (progress_after shows_state bytes)

-- the run of a replay over an input
abbrev pub replay_run : Bool → List ℕ → Input → Input → Run Replay Verdict
replay_run shows_state = run_of (progress_after shows_state) (replay shows_state)
