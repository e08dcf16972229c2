-- What is true of a replay before each line stays true after it.
use Rattle.std.proofs.Common.{◌≡◌, ℕ, zero, suc, ◌+◌, List, Option, Some, None, Result, Ok, Err, OnOk, refl, sym, subst, ◌∙◌, arith}
use Rattle.clk_units.specs.declared.NoMemory.{NoMemory}
use Rattle.board_types.specs.declared.access.Access.TheVariants.{Step}
use Rattle.board_types.specs.declared.parts.BoardParts.{BoardParts}
use Rattle.board_core.specs.Access.{after_access}
use Rattle.board_core.specs.Hv.{hv_published_at_host}
use Rattle.board_core.specs.Pages.{after_clock, published_at_host}
use Rattle.board_core.specs.Reanchor.{reanchored}
use Rattle.board_core.proofs.Laws.{after_access-cpus, after_access-format}
use Rattle.transfer.specs.Move.{moved_to, published_below}
use Rattle.transfer.proofs.Publishing.{published_below-cpus}
use Rattle.trace_blocks.specs.declared.deliveries.Deliveries.{Deliveries}
use Rattle.trace_blocks.specs.declared.ends.End.{End as PhaseEnd}
use Rattle.trace_blocks.specs.declared.ends.End.TheVariants.{Finish, Save as BySave, Move as ByMove}
use Rattle.reply_text.specs.declared.ends.Refused.{Refused}
use Rattle.trace_text.specs.Header.{board_of}
use Rattle.trace_text.specs.Lines.{taken, after_line}
use Rattle.trace_text.specs.declared.faults.RecordFault.{RecordFault}
use Rattle.trace_records.specs.declared.Job.{Job}
use Rattle.trace_records.specs.declared.Call.TheVariants.{Act, ReadPage, ReadClock, ReadHv}
use Rattle.trace_records.specs.declared.Job.TheVariants.{Ask, Save, Move}
use Rattle.trace_text.specs.declared.reading.Item.{Item}
use Rattle.trace_text.specs.declared.reading.Item.TheVariants.{Begun, Next, End}
use Rattle.trace_text.specs.declared.reading.ReadingParts.{ReadingParts}
use Rattle.trace_text.specs.declared.reading.Stage.{Stage}
use Rattle.trace_text.specs.declared.reading.Stage.TheVariants.{Opening, Heading, Running}
use Rattle.trace_loop.specs.Progress.{Answer, Goes, Ends}
use Rattle.trace_loop.specs.Answered.{end_of, state_after, IsAnswered}
use Rattle.trace_replay.specs.Records.{answer_unless, end_answer, job_answer}
use Rattle.trace_replay.specs.Replay.{item_answer, taken_answer, answer_of, with_board}
use Rattle.trace_replay.specs.Ready.{IsRound, IsReady}
use Rattle.trace_replay.specs.declared.replay.Replay.{Replay}
use Rattle.trace_replay.specs.declared.status.Verdict.{Verdict}
use Rattle.trace_replay.proofs.ReaderSteps.{HoldsFrom, taken_holds}

-- after an item the reader's stage goes with the board that the item leaves
abbrev Onward : BoardParts → Item → Stage → Type 0
Onward b (Begun header) t = IsRound t (board_of header.begin)
Onward b End t = Unit {0}
Onward b _ t = IsRound t b

onward : (b : BoardParts) (s : Stage) → IsRound s b → HoldsFrom (Onward b) s
onward b Opening round = λ head. tt
onward b (Heading head) round = ((refl, refl), λ more. tt)
onward b (Running body) round = (tt, λ rec. round)
onward b _ round = tt

-- a board with as many processors and the same format serves as well
round_same : (t : Stage) (b b' : BoardParts) → b'.cpus ≡ b.cpus → b'.format ≡ b.format → IsRound t b → IsRound t b'
round_same (Running body) b b' cpus format round = (round.0 ∙ sym cpus, round.1 ∙ sym format)
round_same _ b b' cpus format round = round

-- a record leaves such a board
abbrev pub Same : BoardParts → Answer BoardParts Verdict → Type 0
Same b (Goes text b') = (b'.cpus ≡ b.cpus) × (b'.format ≡ b.format)
Same b (Ends closing) = Unit {0}

same_unless : (o : Option Refused) (line : ℕ) (text : List ℕ) (b b' : BoardParts) → b'.cpus ≡ b.cpus → b'.format ≡ b.format
    → Same b (answer_unless o line text b')
same_unless None line text b b' cpus format = (cpus, format)
same_unless (Some why) line text b b' cpus format = tt

published-format : (b : BoardParts) (khz start gap n : ℕ) (m : BoardParts) → (published_below b khz start gap n m).format ≡ m.format
unfolding published_below published_at_host
published-format b khz start gap zero m = refl
published-format b khz start gap (suc n) m = published-format b khz start gap n m

pub moved-cpus : (khz start gap : ℕ) (b : BoardParts) → (moved_to khz start gap b).cpus ≡ b.cpus
unfolding moved_to reanchored hv_published_at_host
moved-cpus khz start gap b = published_below-cpus b khz start gap b.cpus (reanchored khz start gap b)

pub moved-format : (khz start gap : ℕ) (b : BoardParts) → (moved_to khz start gap b).format ≡ b.format
unfolding moved_to reanchored hv_published_at_host
moved-format khz start gap b = published-format b khz start gap b.cpus (reanchored khz start gap b)

-- so does what ends a phase
same_end : (line : ℕ) (end : PhaseEnd) (ds : Deliveries) (b : BoardParts) → Same b (end_answer line end ds b)
same_end line Finish ds b = (refl, refl)
same_end line (BySave at cpu h) ds b = same_unless _ line _ b (after_access b cpu h Step) (after_access-cpus b cpu h Step) (after_access-format b cpu h Step)
same_end line (ByMove at cpu h host) ds b =
    same_unless _ line _ b (moved_to host.khz host.start host.gap (after_access b cpu h Step))
    (moved-cpus host.khz host.start host.gap _ ∙ after_access-cpus b cpu h Step)
    (moved-format host.khz host.start host.gap _ ∙ after_access-format b cpu h Step)

pub same_job : (line cpu h : ℕ) (job : Job) (ds : Deliveries) (b : BoardParts) → Same b (job_answer line cpu h job ds b)
unfolding after_clock
same_job line cpu h (Ask (Act a)) ds b = same_unless _ line _ b (after_access b cpu h a) (after_access-cpus b cpu h a) (after_access-format b cpu h a)
same_job line cpu h (Ask (ReadPage page)) ds b = same_unless _ line _ b b refl refl
same_job line cpu h (Ask (ReadClock page)) ds b = same_unless _ line _ b (after_clock b page h) refl refl
same_job line cpu h (Ask ReadHv) ds b = same_unless _ line _ b b refl refl
same_job line cpu h Save ds b = same_end line (BySave line cpu h) ds b
same_job line cpu h (Move khz start gap) ds b = same_end line (ByMove line cpu h (record { khz = khz; start = start; gap = gap })) ds b

-- after a record
record_ready : (line : ℕ) (r : Replay) (x : Answer BoardParts Verdict) → r.reading.lines ≡ line → IsRound r.reading.stage r.board → Same r.board x
    → end_of (with_board x r) ≡ None → IsReady (line + 1) (state_after (with_board x r) r)
record_ready line r (Goes text b) count round same none = record {
  count = omega (arith, count);
  round = round_same r.reading.stage r.board b same.0 same.1 round;
}
record_ready line r (Ends closing) count round same none = cc

-- after an item
item_ready : (line : ℕ) (item : Item) (r : Replay) → r.reading.lines ≡ line → Onward r.board item r.reading.stage
    → end_of (item_answer line item r) ≡ None → IsReady (line + 1) (state_after (item_answer line item r) r)
item_ready line (Next rec) r count round none =
    record_ready line r (job_answer line rec.cpu rec.h rec.job r.deliveries r.board) count round
    (same_job line rec.cpu rec.h rec.job r.deliveries r.board) none
item_ready line End r count round none = cc
item_ready line _ r count round none = record { count = omega (arith, count); round = round }

-- after a line that was read
pub ready_next : (line : ℕ) (r : Replay) (text : List ℕ) (item : Item) → IsReady line r → taken r.reading text ≡ Ok item
    → (let r' : Replay = record r { reading = after_line text r.reading } in end_of (item_answer line item r') ≡ None
    → IsReady (line + 1) (state_after (item_answer line item r') r'))
ready_next line r text item ready took =
    let next = taken_holds (Onward r.board) text r.reading item ready.round (onward r.board r.reading.stage ready.round) took in
    item_ready line item (record r { reading = after_line text r.reading }) (next.0 ∙ ready.count) next.1

-- .. as a fact of the next line, by what was answered to the item
pub read_ready : (res : Result (Unit {0}) NoMemory) (end : Option Verdict) (line : ℕ) (item : Item) (r new : Replay) (reading : ReadingParts)
    (text : List ℕ) → IsReady line r → taken r.reading text ≡ Ok item → reading ≡ after_line text r.reading
    → (let r' : Replay = record r { reading = reading } in OnOk res (end ≡ end_of (item_answer line item r'))
    → OnOk res (end ≡ None → new ≡ state_after (item_answer line item r') r') → OnOk res (end ≡ None → IsReady (line + 1) new))
read_ready (Err e) end line item r new reading text ready took is = λ ends state. tt
read_ready (Ok u) end line item r new reading text ready took is = λ ends state none.
    subst (IsReady (line + 1)) (sym (state none))
    (subst (λ (p : ReadingParts). (let r' : Replay = record r { reading = p } in end_of (item_answer line item r') ≡ None
    → IsReady (line + 1) (state_after (item_answer line item r') r'))) (sym is) (ready_next line r text item ready took) (sym ends ∙ none))

-- after a line that was read, or was refused
taken_ready : (line : ℕ) (r : Replay) (text : List ℕ) (x : Result Item RecordFault) → IsReady line r → taken r.reading text ≡ x
    → (let r' : Replay = record r { reading = after_line text r.reading } in end_of (taken_answer line x r') ≡ None
    → IsReady (line + 1) (state_after (taken_answer line x r') r'))
taken_ready line r text (Ok item) ready took = ready_next line r text item ready took
taken_ready line r text (Err fault) ready took = λ none. cc

-- the state after an answer that goes on, whatever was before it
state_same : (x : Answer Replay Verdict) (r r' : Replay) → end_of x ≡ None → state_after x r ≡ state_after x r'
state_same (Goes text b) r r' none = refl
state_same (Ends closing) r r' none = cc

-- after a line
answer_ready : (line : ℕ) (r : Replay) (text : List ℕ) → IsReady line r → end_of (answer_of line r text) ≡ None
    → IsReady (line + 1) (state_after (answer_of line r text) r)
unfolding answer_of
answer_ready line r text ready none =
    let r' : Replay = record r { reading = after_line text r.reading } in
    let x : Answer Replay Verdict = taken_answer line (taken r.reading text) r' in
    subst (IsReady (line + 1)) (state_same x r' r none) (taken_ready line r text (taken r.reading text) ready refl none)

-- .. as a fact of the next line, by what was answered to the line
pub next_ready : (line : ℕ) (text before after : List ℕ) (r new : Replay) (end : Option Verdict) (res : Result (Unit {0}) NoMemory)
    → IsReady line r → IsAnswered (answer_of line r text) r new before after end res → OnOk res (end ≡ None → IsReady (line + 1) new)
next_ready line text before after r new end (Ok u) ready given = λ none.
    subst (IsReady (line + 1)) (sym (given.state none)) (answer_ready line r text ready (sym given.ends ∙ none))
next_ready line text before after r new end (Err e) ready given = tt
