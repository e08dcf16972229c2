-- What records do to the board, and what they print.
use Rattle.std.specs.Prelude.{ℕ, List, Option, Some, None}
use Rattle.board_types.specs.declared.parts.BoardParts.{BoardParts}
use Rattle.board_core.specs.Access.{after_access, reply_of}
use Rattle.board_core.specs.Refusals.{meters_of}
use Rattle.board_core.specs.Pages.{page_reply, clock_reply, after_clock}
use Rattle.board_core.specs.Hv.{hv_reply}
use Rattle.trace_blocks.specs.declared.deliveries.Deliveries.{Deliveries}
use Rattle.reply_text.specs.Text.{page_text, clock_text, hv_text, refused_text}
use Rattle.reply_text.specs.declared.ends.Refused.{Refused}
use Rattle.trace_records.specs.declared.Call.TheVariants.{Act, ReadPage, ReadClock, ReadHv}
use Rattle.trace_records.specs.declared.Job.{Job}
use Rattle.trace_records.specs.declared.Job.TheVariants.{Ask, Save, Move}
use Rattle.trace_loop.specs.Progress.{Closing, Answer, Goes, Ends}
use Rattle.trace_blocks.specs.Blocks.{block_of}
use Rattle.trace_blocks.specs.Ends.{next_board, end_refusal, end_text}
use Rattle.trace_blocks.specs.Refusals.{count_refusal, call_refusal}
use Rattle.trace_blocks.specs.declared.ends.End.{End as PhaseEnd}
use Rattle.trace_blocks.specs.declared.ends.End.TheVariants.{Save as BySave, Move as ByMove}
use Rattle.trace_blocks.specs.declared.records.Answer.TheVariants.{Acted}
use Rattle.trace_replay.specs.declared.status.Verdict.{Verdict}
use Rattle.trace_replay.specs.declared.status.Verdict.TheVariants.{Stopped}

-- a line that is refused ends the trace
abbrev pub stops : ℕ → Refused → Closing Verdict
stops line why = record { text = refused_text line why; end = Stopped line why }

-- a call that is refused, or prints this and leaves this board
abbrev pub answer_unless : Option Refused → ℕ → List ℕ → BoardParts → Answer BoardParts Verdict
answer_unless (Some why) line text b = Ends (stops line why)
answer_unless None line text b = Goes text b

-- a save or a move, as it ends a phase
abbrev pub end_answer : ℕ → PhaseEnd → Deliveries → BoardParts → Answer BoardParts Verdict
end_answer line end ds b =
    answer_unless (end_refusal (meters_of b) end) line (end_text ds end b) (next_board end b)

-- a record, by what it does: an access, which the board may refuse; a read, at a count that has a
-- time; a save or a move. A read of a page changes nothing, and one of the clock may raise the greatest
-- reading that was told
abbrev pub job_answer : ℕ → ℕ → ℕ → Job → Deliveries → BoardParts → Answer BoardParts Verdict
job_answer line cpu h (Ask (Act a)) ds b =
    answer_unless (call_refusal (meters_of b) cpu h (Act a)) line
    (block_of ds line (Acted (reply_of b cpu h a))) (after_access b cpu h a)
job_answer line cpu h (Ask (ReadPage page)) ds b =
    answer_unless (count_refusal b.anchor h) line (page_text line (page_reply b page h)) b
job_answer line cpu h (Ask (ReadClock page)) ds b =
    answer_unless (count_refusal b.anchor h) line (clock_text line (clock_reply b page h))
    (after_clock b page h)
job_answer line cpu h (Ask ReadHv) ds b =
    answer_unless (count_refusal b.anchor h) line (hv_text line (hv_reply b h)) b
job_answer line cpu h Save ds b = end_answer line (BySave line cpu h) ds b
job_answer line cpu h (Move khz start gap) ds b =
    end_answer line (ByMove line cpu h (record { khz = khz; start = start; gap = gap })) ds b
