-- Counts with a time and without, as answers to reads; and what an access prints.
use Rattle.std.proofs.Common.{◌≡◌, ℕ, List, ◌++◌, Option, Some, None, Result, Ok, OnOk, OnErr, sym, ap, ◌∙◌}
use Rattle.std.specs.Option.{option_map}
use Rattle.std.proofs.Math.Seq.{take-length}
use Rattle.std.proofs.lemmas.Result.{on_ok_weaker, on_err_weaker}
use Rattle.host_counter.proofs.Times.{no_fault-of_time}
use Rattle.host_counter.specs.Time.{time_fault}
use Rattle.host_counter.specs.declared.Anchor.{Anchor}
use Rattle.host_counter.specs.declared.TimeFault.{TimeFault}
use Rattle.board_types.specs.declared.access.Access.{Access}
use Rattle.board_types.specs.declared.parts.BoardParts.{BoardParts}
use Rattle.board_types.specs.declared.reply.Refusal.{Refusal}
use Rattle.board_types.specs.declared.reply.Reply.{Reply}
use Rattle.board_core.specs.Access.{after_access, reply_of}
use Rattle.board_core.specs.Refusals.{refusal_of}
use Rattle.trace_blocks.specs.declared.deliveries.Deliveries.{Deliveries}
use Rattle.trace_blocks.specs.Blocks.{block_of}
use Rattle.trace_blocks.specs.declared.records.Answer.TheVariants.{Acted}
use Rattle.host_counter.specs.Time.{HasTime}
use Rattle.clk_units.specs.declared.NoMemory.{NoMemory}
use Rattle.reply_text.specs.Text.{refused_text}
use Rattle.reply_text.specs.declared.ends.Refused.{Refused}
use Rattle.trace_records.specs.declared.Call.TheVariants.{Act}
use Rattle.trace_records.specs.declared.Job.TheVariants.{Ask}
use Rattle.trace_loop.specs.Progress.{Answer, Goes, Ends}
use Rattle.trace_loop.specs.Answered.{printed, end_of, state_after, IsAnswered}
use Rattle.trace_blocks.specs.Refusals.{count_refusal, refused_fault, refused_access}
use Rattle.trace_replay.specs.Records.{
  answer_unless,
  job_answer,
  stops,
}
use Rattle.trace_replay.specs.Replay.{with_board}
use Rattle.trace_replay.specs.declared.replay.Replay.{Replay}
use Rattle.trace_replay.specs.declared.status.Verdict.{Verdict}
use Rattle.trace_replay.specs.declared.status.Verdict.TheVariants.{Stopped}

-- a count with a time isn't refused
pub counted : (anchor : Anchor) (h : ℕ) → HasTime anchor h → count_refusal anchor h ≡ None
unfolding count_refusal
counted anchor h t = ap (λ (o : Option TimeFault). option_map refused_fault o) (no_fault-of_time anchor h t)

-- one without is, by its fault
pub faulted : (anchor : Anchor) (h : ℕ) (fault : TimeFault) → time_fault anchor h ≡ Some fault → count_refusal anchor h ≡ Some (refused_fault fault)
unfolding count_refusal
faulted anchor h fault is = ap (λ (o : Option TimeFault). option_map refused_fault o) is

-- a read of a board, which is kept elsewhere as the same: at a count with a time it prints its text, and leaves its board
module _ (text : BoardParts → List ℕ) (changed : BoardParts → BoardParts) (line h : ℕ) (r : Replay) where
  abbrev pub read_of : BoardParts → Answer Replay Verdict
  read_of b = with_board (answer_unless (count_refusal b.anchor h) line (text b) (changed b)) r

  module _ (b c : BoardParts) (same : b ≡ c) where
    goes : HasTime b.anchor h → read_of c ≡ Goes (text b) (record r { board = changed b })
    goes t = ap read_of (sym same) ∙ ap (λ (o : Option Refused). with_board (answer_unless o line (text b) (changed b)) r) (counted b.anchor h t)

    pub read-answered : (after : BoardParts) (out new : List ℕ) (end : Option Verdict) → HasTime b.anchor h → after ≡ changed b
        → new ≡ out ++ text b → end ≡ None → (let done : Result (Unit {0}) NoMemory = Ok tt in
        IsAnswered (read_of c) r (record r { board = after }) out new end done)
    read-answered after out new end t is told none = record {
      printed = told ∙ ap (λ (x : Answer Replay Verdict). out ++ printed x) (sym (goes t));
      ends = none ∙ ap end_of (sym (goes t));
      state = λ _. ap (λ (x : BoardParts). record r { board = x }) is ∙ ap (λ (x : Answer Replay Verdict). state_after x r) (sym (goes t));
      err = tt;
    }

    -- and at one without it is refused
    stopped : (fault : TimeFault) → time_fault b.anchor h ≡ Some fault → read_of c ≡ Ends (stops line (refused_fault fault))
    stopped fault is = ap read_of (sym same) ∙ ap (λ (o : Option Refused). with_board (answer_unless o line (text b) (changed b)) r) (faulted b.anchor h fault is)

    pub refused-answered : (res : Result (Unit {0}) NoMemory) (fault : TimeFault) (why : Refused) (after : Replay) (out new : List ℕ) (end : Option Verdict)
        → time_fault b.anchor h ≡ Some fault → why ≡ refused_fault fault → OnOk res (new ≡ out ++ refused_text line why) → OnOk res (end ≡ Some (Stopped line why))
        → OnErr res (new ≡ out) → IsAnswered (read_of c) r after out new end res
    refused-answered res fault why after out new end is told text_put ended kept = record {
      printed = on_ok_weaker res (λ e. e ∙ ap (λ (w : Refused). out ++ refused_text line w) told
          ∙ ap (λ (x : Answer Replay Verdict). out ++ printed x) (sym (stopped fault is))) text_put;
      ends = on_ok_weaker res (λ e. e ∙ ap (λ (w : Refused). Some (Stopped line w)) told ∙ ap end_of (sym (stopped fault is))) ended;
      state = on_ok_weaker res (λ e none. cc) ended;
      err = on_err_weaker res (λ e. rw e (take-length out)) kept;
    }

-- an access that is taken prints its block
pub access-printed : (line cpu h : ℕ) (a : Access) (ds : Deliveries) (b : BoardParts) (r : Replay) (reply : Reply) (out : List ℕ)
    → refusal_of b cpu h a ≡ None → reply ≡ reply_of b cpu h a
    → out ++ block_of ds line (Acted reply) ≡ out ++ printed (with_board (job_answer line cpu h (Ask (Act a)) ds b) r)
access-printed line cpu h a ds b r reply out taken is =
    ap (λ (x : Reply). out ++ block_of ds line (Acted x)) is
    ∙ ap (λ (o : Option Refusal). out ++ printed (with_board
    (answer_unless (option_map refused_access o) line (block_of ds line (Acted (reply_of b cpu h a))) (after_access b cpu h a)) r)) (sym taken)
