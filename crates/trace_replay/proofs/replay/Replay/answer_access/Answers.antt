use Rattle.std.proofs.Common.{rules, ◌≡◌, ℕ, List, [], ◌++◌, OnOk, ap, sym, subst, ◌∙◌}
use Rattle.std.proofs.Math.Seq.{take-length}
use Rattle.std.proofs.lemmas.Result.{on_err_weaker}
use Rattle.irq_edges.specs.declared.edges.Edge.{Edge}
use Rattle.irq_edges.specs.declared.bursts.Burst.{Burst}
use Rattle.board_types.specs.declared.parts.BoardParts.{BoardParts}
use Rattle.board_types.specs.declared.reply.Reply.{Reply}
use Rattle.reply_text.specs.Text.{value_text}
use Rattle.trace_blocks.specs.declared.deliveries.Deliveries.{Deliveries}
use Rattle.trace_blocks.specs.declared.records.Answer.TheVariants.{Acted}
use Rattle.trace_blocks.specs.Blocks.{block_of, edges_text, messages_text}
use Rattle.trace_records.specs.declared.Call.TheVariants.{Act}
use Rattle.trace_records.specs.declared.Job.TheVariants.{Ask}
use Rattle.trace_loop.specs.Answered.{printed}
use Rattle.trace_replay.specs.Records.{job_answer}
use Rattle.trace_replay.specs.Replay.{with_board}
use Rattle.trace_replay.proofs.Counts.{access-printed}
use Rattle.trace_replay.proofs.replay.Replay.answer_access.Goals as goal

-- the block of a reply without edges and messages is its line
quiet : (ds : Deliveries) (line : ℕ) (reply : Reply) → reply.edges ≡ [] → reply.bursts ≡ []
    → block_of ds line (Acted reply) ≡ value_text line reply.number reply.value
unfolding block_of
quiet ds line reply edges bursts =
    ap (λ (es : List Edge). edges_text ds es ++ messages_text ds reply.bursts ++ value_text line reply.number reply.value) edges
    ∙ ap (λ (bs : List Burst). messages_text ds bs ++ value_text line reply.number reply.value) bursts

pub returns-then-is_empty-2 : goal.returns-then-is_empty-2
returns-then-is_empty-2 c =
    let cpu : ℕ = c.args.asked.cpu in
    let h : ℕ = c.args.asked.h in
    let ds : Deliveries = c.args.self.now.deliveries in
    let out : List ℕ = c.args.out.now.items in
    let reply : Reply = c.take.new.reply in
    let printed_now = subst (λ (x : BoardParts). OnOk c.board_line.result (c.board_line.new.out.items
    ≡ out ++ printed (with_board (job_answer c.args.line cpu h (Ask (Act c.args.asked.access)) ds x) c.args.self.now))) c.board.view_is
    (subst (λ (t : List ℕ). OnOk c.board_line.result (c.board_line.new.out.items ≡ t))
    (ap (λ (t : List ℕ). out ++ t) (sym (quiet ds c.args.line reply (c.is_empty.ensures.0 c.if-is_empty.true)
    (c.is_empty-then-is_empty.ensures.0 c.if-is_empty-2.true)))
    ∙ access-printed c.args.line cpu h c.args.asked.access ds c.board.inside.state c.args.self.now reply out c.if-not-take.ensures.taken.taken c.if-not-take.ensures.taken.reply)
    c.board_line.ensures.ok) in record {
      printed = printed_now;
      ends = search rules;
      state = search rules;
      err = on_err_weaker c.board_line.result (λ e. rw e (take-length out)) c.board_line.ensures.err;
    }
