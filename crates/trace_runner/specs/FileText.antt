-- What the records of a trace print that is answered in file order, by one thread.
use Rattle.std.specs.Prelude.{ℕ, List, [], ◌∷◌, ◌++◌}
use Rattle.board_types.specs.declared.parts.BoardParts.{BoardParts}
use Rattle.board_core.specs.Access.{reply_of}
use Rattle.board_core.specs.Pages.{page_reply, clock_reply}
use Rattle.board_core.specs.Hv.{hv_reply}
use Rattle.trace_blocks.specs.declared.deliveries.Deliveries.{Deliveries}
use Rattle.trace_blocks.specs.Blocks.{block_of}
use Rattle.trace_blocks.specs.Ends.{next_board, end_text}
use Rattle.trace_blocks.specs.declared.records.Answer.{Answer}
use Rattle.trace_blocks.specs.declared.records.Answer.TheVariants.{Acted, PageIs, ClockIs, HvIs}
use Rattle.trace_records.specs.declared.Call.{Call}
use Rattle.trace_records.specs.declared.Call.TheVariants.{Act, ReadPage, ReadClock, ReadHv}
use Rattle.trace_blocks.specs.declared.records.Record.{Record}
use Rattle.trace_replay.specs.Replay.{ended}
use Rattle.trace_runner.specs.Replayed.{board_after_phases, records_after, replayed}
use Rattle.race_phase.specs.declared.phases.Phase.{Phase}
use Rattle.trace_runner.specs.Trace.{TraceRead}

-- what a call is answered on a board
abbrev pub answer_on : BoardParts → ℕ → ℕ → Call → Answer
answer_on b cpu h (Act a) = Acted (reply_of b cpu h a)
answer_on b cpu h (ReadPage page) = PageIs (page_reply b page h)
answer_on b cpu h (ReadClock page) = ClockIs (clock_reply b page h)
answer_on b cpu h ReadHv = HvIs (hv_reply b h)

-- the blocks of records, one after another
abbrev pub records_text : Deliveries → BoardParts → List Record → List ℕ
records_text ds b [] = []
records_text ds b (r ∷ rs) =
    block_of ds r.line (answer_on b r.cpu r.h r.call)
    ++ records_text ds (board_after_phases b r.cpu r.h r.call) rs

-- of a phase, with what ends it; and of phases
abbrev pub phase_text : Deliveries → BoardParts → Phase → List ℕ
phase_text ds b v = records_text ds b v.records ++ end_text ds v.end (records_after b v.records)

-- of phases, one after another
abbrev pub phases_text : Deliveries → BoardParts → List Phase → List ℕ
phases_text ds b [] = []
phases_text ds b (v ∷ vs) =
    phase_text ds b v ++ phases_text ds (next_board v.end (records_after b v.records)) vs

-- of a whole trace
abbrev pub file_text : TraceRead → List ℕ
file_text t =
    phases_text t.deliveries t.opening t.phases
    ++ (ended t.shows_state (replayed t.opening t.phases [])).text
