-- What a replay prints is whole lines: each block ends with the end of a line.
use Rattle.std.proofs.Common.{
  ◌≡◌,
  ℕ,
  ◌==◌,
  ltb,
  Bool,
  true,
  false,
  cond,
  codes,
  decimal,
  List,
  [],
  ◌∷◌,
  ◌++◌,
  length,
  Option,
  Some,
  None,
  Result,
  Ok,
  Err,
  refl,
  sym,
  ap,
  ◌∙◌,
  subst,
  inl,
  inr,
  append_assoc,
  append-nil,
}
use Rattle.std.specs.Fmt.{signed_decimal}
use Rattle.std.specs.List.{items_where_true}
use Rattle.board_types.specs.declared.access.Access.TheVariants.{Step}
use Rattle.board_types.specs.declared.parts.BoardParts.{BoardParts}
use Rattle.board_types.specs.declared.reply.Reply.{Reply}
use Rattle.board_devices.specs.Run.{run}
use Rattle.board_devices.specs.Lines.{levels}
use Rattle.board_core.specs.Time.{devices_in, now_of}
use Rattle.board_core.specs.Access.{after_access, reply_of}
use Rattle.board_core.specs.Hv.{hv_reply}
use Rattle.board_core.specs.Pages.{page_reply, clock_reply}
use Rattle.hv_page.specs.Page.{tsc_sequence}
use Rattle.hv_page.specs.declared.page.HvReply.{HvReply}
use Rattle.hv_page.specs.declared.page.HvReply.TheVariants.{Off as HvOff, On as HvOn}
use Rattle.irq_edges.specs.Lines.{line_numbers}
use Rattle.trace_blocks.specs.declared.deliveries.Deliveries.{Deliveries}
use Rattle.pvclock_page.specs.declared.page.PageReply.{PageReply}
use Rattle.pvclock_page.specs.declared.page.PageReply.TheVariants.{Off as PageOff, On as PageOn}
use Rattle.pvclock_page.specs.declared.page.ClockReply.{ClockReply}
use Rattle.pvclock_page.specs.declared.page.ClockReply.TheVariants.{Off as ClockOff, On as ClockOn}
use Rattle.transfer.specs.Move.{gap_bursts, moved_to}
use Rattle.save_state.specs.Writing.{bytes_of}
use Rattle.reply_text.specs.Words.{hex_text, hexes, line_of, spaced}
use Rattle.reply_text.specs.Text.{
  value_text,
  page_text,
  clock_text,
  hv_text,
  save_text,
  move_text,
  final_text,
  state_text,
  refused_text,
  reason_words,
  value_words,
  up_word,
}
use Rattle.reply_text.specs.declared.ends.Refused.{Refused}
use Rattle.reply_text.specs.declared.ends.Refused.TheVariants.{Invalid}
use Rattle.trace_text.specs.Lines.{taken, after_line}
use Rattle.trace_text.specs.declared.faults.RecordFault.{RecordFault}
use Rattle.trace_text.specs.declared.reading.Item.{Item}
use Rattle.trace_text.specs.declared.reading.Item.TheVariants.{Skipped, Part, Begun, Next, End}
use Rattle.trace_records.specs.declared.Job.{Job}
use Rattle.trace_records.specs.declared.Call.TheVariants.{Act, ReadPage, ReadClock, ReadHv}
use Rattle.trace_records.specs.declared.Job.TheVariants.{Ask, Save, Move}
use Rattle.trace_loop.specs.Progress.{limit_of, Answer, Goes, Ends, Progress, opened, told, answered, checked, heard, after_bytes}
use Rattle.trace_loop.specs.Answered.{printed}
use Rattle.trace_blocks.specs.Blocks.{edges_text, messages_text, block_of}
use Rattle.trace_blocks.specs.declared.records.Answer.TheVariants.{Acted}
use Rattle.trace_blocks.specs.declared.ends.End.{End as PhaseEnd}
use Rattle.trace_blocks.specs.declared.ends.End.TheVariants.{Finish, Save as BySave, Move as ByMove}
use Rattle.trace_replay.specs.Records.{answer_unless, end_answer, job_answer}
use Rattle.trace_replay.specs.Records as records
use Rattle.trace_replay.specs.Replay.{
  at_start,
  final_of,
  ended,
  with_board,
  item_answer,
  taken_answer,
  answer_of,
  progress_after,
}
use Rattle.trace_replay.specs.WholeLines.{IsWholeLines}
use Rattle.trace_replay.specs.declared.replay.Replay.{Replay}
use Rattle.trace_replay.specs.declared.status.Verdict.{Verdict}

-- the end of a line is last
abbrev EndsLine : List ℕ → Type 0
EndsLine text = (front : List ℕ) × (text ≡ front ++ 10 ∷ [])

ends_after : (a b : List ℕ) → EndsLine b → EndsLine (a ++ b)
ends_after a b e = (a ++ e.0, ap (λ (t : List ℕ). a ++ t) e.1 ∙ sym (append_assoc a e.0 (10 ∷ [])))

whole_after : (a b : List ℕ) → IsWholeLines a → IsWholeLines b → IsWholeLines (a ++ b)
whole_after a b x (inl none) = subst IsWholeLines (sym (ap (λ (t : List ℕ). a ++ t) none ∙ append-nil a)) x
whole_after a b x (inr e) = inr (ends_after a b e)

-- each printed line
spaced_ends : (ws : List (List ℕ)) → EndsLine (spaced ws)
spaced_ends [] = ([], refl)
spaced_ends (w ∷ ws) = ends_after (32 ∷ w) (spaced ws) (spaced_ends ws)

line_ends : (w : List ℕ) (ws : List (List ℕ)) → EndsLine (line_of w ws)
line_ends w ws = ends_after w (spaced ws) (spaced_ends ws)

board_ends : (line : ℕ) (reply : Reply) → EndsLine (value_text line reply.number reply.value)
unfolding value_text
board_ends line reply = line_ends (decimal line) (decimal reply.number ∷ value_words reply.value)

page_ends : (line : ℕ) (reply : PageReply) → EndsLine (page_text line reply)
unfolding page_text
page_ends line PageOff = line_ends (decimal line) (codes "page" ∷ codes "off" ∷ [])
page_ends line (PageOn page reading) =
    line_ends (decimal line)
    (codes "page" ∷ decimal page.version ∷ decimal page.tsc_timestamp ∷ decimal page.system_time ∷ hex_text 8 page.mul ∷ signed_decimal page.shift
    ∷ hex_text 2 page.flags ∷ decimal reading ∷ [])

clock_ends : (line : ℕ) (reply : ClockReply) → EndsLine (clock_text line reply)
unfolding clock_text
clock_ends line ClockOff = line_ends (decimal line) (codes "clock" ∷ codes "off" ∷ [])
clock_ends line (ClockOn reading clock) = line_ends (decimal line) (codes "clock" ∷ decimal reading ∷ decimal clock ∷ [])

hv_ends : (line : ℕ) (reply : HvReply) → EndsLine (hv_text line reply)
unfolding hv_text
hv_ends line HvOff = line_ends (decimal line) (codes "hv" ∷ codes "off" ∷ [])
hv_ends line (HvOn page reading) =
    line_ends (decimal line) (codes "hv" ∷ decimal (tsc_sequence page) ∷ decimal page.scale ∷ decimal page.offset ∷ decimal reading ∷ [])

save_ends : (line number : ℕ) (bytes : List ℕ) → EndsLine (save_text line number bytes)
unfolding save_text
save_ends line number bytes = line_ends (decimal line) (decimal number ∷ codes "state" ∷ hexes bytes ∷ [])

move_ends : (line number time : ℕ) → EndsLine (move_text line number time)
unfolding move_text
move_ends line number time = line_ends (decimal line) (decimal number ∷ codes "moved" ∷ decimal time ∷ [])

refused_ends : (line : ℕ) (why : Refused) → EndsLine (refused_text line why)
unfolding refused_text
refused_ends line why = line_ends (codes "refused") (decimal line ∷ reason_words why)

state_ends : (bytes : List ℕ) → EndsLine (state_text bytes)
unfolding state_text
state_ends bytes = line_ends (codes "state") (hexes bytes ∷ [])

final_ends : (b : BoardParts) → EndsLine (final_of b)
unfolding final_text
final_ends b =
    line_ends (codes "final")
    (decimal (now_of b) ∷ decimal b.accesses ∷ decimal b.greatest ∷ up_word (items_where_true (levels (devices_in b)) line_numbers) ∷ [])

-- each answer
block_ends : (ds : Deliveries) (line : ℕ) (reply : Reply) → EndsLine (block_of ds line (Acted reply))
unfolding block_of
block_ends ds line reply =
    ends_after (edges_text ds reply.edges ++ messages_text ds reply.bursts) (value_text line reply.number reply.value) (board_ends line reply)

unless_whole : (o : Option Refused) (line : ℕ) (text : List ℕ) (b : BoardParts) → EndsLine text → IsWholeLines (printed (answer_unless o line text b))
unless_whole (Some why) line text b ends = inr (refused_ends line why)
unless_whole None line text b ends = inr ends

end_whole : (line : ℕ) (end : PhaseEnd) (ds : Deliveries) (b : BoardParts) → IsWholeLines (printed (end_answer line end ds b))
end_whole line Finish ds b = inl refl
end_whole line (BySave at cpu h) ds b =
    let reply : Reply = reply_of b cpu h Step in
    let bytes : List ℕ = bytes_of (after_access b cpu h Step) in
    unless_whole _ line _ _ (ends_after (edges_text ds reply.edges ++ messages_text ds reply.bursts) (save_text at reply.number bytes) (save_ends at reply.number bytes))
end_whole line (ByMove at cpu h host) ds b =
    let reply : Reply = reply_of b cpu h Step in
    let c : BoardParts = after_access b cpu h Step in
    let time : ℕ = now_of (moved_to host.khz host.start host.gap c) in
    let edges : List ℕ = edges_text ds reply.edges ++ edges_text ds (run (now_of c) host.gap (devices_in c)).edges in
    unless_whole _ line _ _ (ends_after (edges ++ messages_text ds reply.bursts ++ messages_text ds (gap_bursts host.gap c)) (move_text at reply.number time)
    (move_ends at reply.number time))

job_whole : (line cpu h : ℕ) (job : Job) (ds : Deliveries) (b : BoardParts) → IsWholeLines (printed (job_answer line cpu h job ds b))
job_whole line cpu h (Ask (Act a)) ds b = unless_whole _ line _ _ (block_ends ds line (reply_of b cpu h a))
job_whole line cpu h (Ask (ReadPage page)) ds b = unless_whole _ line _ _ (page_ends line (page_reply b page h))
job_whole line cpu h (Ask (ReadClock page)) ds b = unless_whole _ line _ _ (clock_ends line (clock_reply b page h))
job_whole line cpu h (Ask ReadHv) ds b = unless_whole _ line _ _ (hv_ends line (hv_reply b h))
job_whole line cpu h Save ds b = end_whole line (BySave line cpu h) ds b
job_whole line cpu h (Move khz start gap) ds b = end_whole line (ByMove line cpu h (record { khz = khz; start = start; gap = gap })) ds b

board_whole : (x : Answer BoardParts Verdict) (r : Replay) → IsWholeLines (printed x) → IsWholeLines (printed (with_board x r))
board_whole (Goes text b) r whole = whole
board_whole (Ends closing) r whole = whole

ended_whole : (shows_state : Bool) (b : BoardParts) → IsWholeLines (ended shows_state b).text
ended_whole true b = inr (ends_after (final_of b) (state_text (bytes_of b)) (state_ends (bytes_of b)))
ended_whole false b = inr (final_ends b)

item_whole : (line : ℕ) (item : Item) (r : Replay) → IsWholeLines (printed (item_answer line item r))
item_whole line Skipped r = inl refl
item_whole line Part r = inl refl
item_whole line (Begun header) r = inl refl
item_whole line (Next rec) r =
    board_whole (job_answer line rec.cpu rec.h rec.job r.deliveries r.board) r (job_whole line rec.cpu rec.h rec.job r.deliveries r.board)
item_whole line End r = ended_whole r.shows_state r.board

taken_whole : (line : ℕ) (x : Result Item RecordFault) (r : Replay) → IsWholeLines (printed (taken_answer line x r))
taken_whole line (Ok item) r = item_whole line item r
taken_whole line (Err fault) r = inr (refused_ends fault.line (Invalid fault.reason))

-- by the bytes
told_whole : (a : Answer Replay Verdict) (p : Progress Replay Verdict) → IsWholeLines (printed a) → IsWholeLines p.printed
    → IsWholeLines (told a p).printed
told_whole (Goes block r) p block_whole before = whole_after p.printed block before block_whole
told_whole (Ends closing) p text_whole before = whole_after p.printed closing.text before text_whole

answered_whole : (p : Progress Replay Verdict) → IsWholeLines p.printed → IsWholeLines (answered answer_of p).printed
unfolding answer_of
answered_whole p before =
    let r : Replay = record p.state { reading = after_line p.text p.state.reading } in
    told_whole (taken_answer p.line (taken p.state.reading p.text) r) p (taken_whole p.line (taken p.state.reading p.text) r) before

either_whole : (t : Bool) (a b : Progress Replay Verdict) → IsWholeLines a.printed → IsWholeLines b.printed → IsWholeLines (cond t a b).printed
either_whole true a b x y = x
either_whole false a b x y = y

heard_whole : (end : Option Verdict) (b : ℕ) (p : Progress Replay Verdict) → IsWholeLines p.printed
    → IsWholeLines (heard answer_of end b p).printed
heard_whole None b p before =
    let longer : Progress Replay Verdict = record p { text = p.text ++ b ∷ [] } in
    either_whole (b == 10) (answered answer_of p) (checked answer_of longer) (answered_whole p before)
    (either_whole (ltb (limit_of longer.text) (length longer.text)) (answered answer_of longer) longer (answered_whole longer before) before)
heard_whole (Some end) b p before = before

after_whole : (bytes : List ℕ) (p : Progress Replay Verdict) → IsWholeLines p.printed → IsWholeLines (after_bytes answer_of bytes p).printed
after_whole [] p before = before
after_whole (b ∷ bs) p before = after_whole bs (heard answer_of p.end b p) (heard_whole p.end b p before)

-- what a replay has printed after any bytes
pub progress_whole : (shows_state : Bool) (bytes : List ℕ) → IsWholeLines (progress_after shows_state bytes).printed
unfolding progress_after
progress_whole shows_state bytes = after_whole bytes (opened (at_start shows_state)) (inl refl)
