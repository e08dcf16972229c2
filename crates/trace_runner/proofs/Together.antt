-- A replay and the check of a race go together: what the replay has printed is the text of what the check has kept.
use Rattle.std.proofs.Common.{
  ◌≡◌,
  ℕ,
  ◌+◌,
  ◌==◌,
  ◌&&◌,
  ltb,
  Bool,
  true,
  false,
  cond,
  List,
  [],
  ◌∷◌,
  ◌++◌,
  length,
  Option,
  Some,
  None,
  Result,
  Ok,
  Err,
  refl,
  sym,
  ap,
  subst,
  ◌∙◌,
  append_assoc,
  append-nil,
}
use Rattle.std.proofs.lemmas.Bool.{cond_both}
use Rattle.board_types.specs.declared.parts.BoardParts.{BoardParts}
use Rattle.board_core.specs.Hv.{hv_reply}
use Rattle.board_core.specs.Access.{after_access, reply_of}
use Rattle.board_core.specs.Pages.{page_reply, clock_reply, after_clock}
use Rattle.trace_blocks.specs.declared.deliveries.Deliveries.{Deliveries}
use Rattle.reply_text.specs.Text.{page_text, clock_text, hv_text}
use Rattle.reply_text.specs.declared.ends.Refused.{Refused}
use Rattle.reply_text.specs.declared.ends.Refused.TheVariants.{Invalid}
use Rattle.trace_text.specs.Lines.{taken, after_line}
use Rattle.trace_text.specs.declared.faults.RecordFault.{RecordFault}
use Rattle.trace_text.specs.declared.reading.Item.{Item}
use Rattle.trace_text.specs.declared.reading.Item.TheVariants.{Begun, Next, End}
use Rattle.trace_text.specs.declared.reading.ReadingParts.{ReadingParts}
use Rattle.trace_text.specs.declared.reading.Stage.{Stage}
use Rattle.trace_text.specs.declared.reading.Stage.TheVariants.{Opening, Heading, Running}
use Rattle.trace_records.specs.declared.Job.{Job}
use Rattle.trace_records.specs.declared.Job.TheVariants.{Ask, Save, Move}
use Rattle.trace_records.specs.declared.Record.{Record as Written}
use Rattle.trace_loop.proofs.Progresses.{replay-ended}
use Rattle.trace_loop.specs.Progress.{
  limit_of,
  Closing,
  Answer,
  Goes,
  Ends,
  Progress,
  opened,
  told,
  answered,
  checked,
  heard,
  after_bytes,
  closed,
  ran,
  finished,
}
use Rattle.trace_blocks.specs.declared.records.Answer.TheVariants.{Acted}
use Rattle.trace_blocks.specs.Blocks.{block_of}
use Rattle.trace_blocks.specs.Ends.{next_board, end_text}
use Rattle.trace_blocks.specs.declared.ends.End.{End as PhaseEnd}
use Rattle.trace_blocks.specs.declared.ends.End.TheVariants.{
  Finish,
  Save as BySave,
  Move as ByMove,
}
use Rattle.trace_records.specs.declared.Call.{Call}
use Rattle.trace_records.specs.declared.Call.TheVariants.{Act, ReadPage, ReadClock, ReadHv}
use Rattle.trace_blocks.specs.declared.records.Record.{Record}
use Rattle.trace_runner.specs.Check.{
  kept,
  with_end,
  has_form,
  is_full,
  too_many,
  refusal,
  checked_by,
  record_checked,
  item_checked,
  fault_checked,
  taken_checked,
  read_on,
  check_answer,
  check_closing,
  check_after,
  check,
  unchecked,
}
use Rattle.trace_runner.specs.Checking.{Checking}
use Rattle.trace_runner.specs.FileText.{answer_on, records_text, phase_text, phases_text, file_text}
use Rattle.trace_replay.specs.Records.{stops, answer_unless, job_answer}
use Rattle.trace_replay.specs.Replay.{
  at_start,
  ended,
  with_board,
  record_answer,
  item_answer,
  taken_answer,
  answer_of,
  closing_of,
  progress_after,
  replay,
}
use Rattle.trace_runner.specs.Replayed.{board_after_phases, records_after, replayed}
use Rattle.race_phase.specs.declared.phases.Phase.{Phase}
use Rattle.trace_runner.specs.Trace.{TraceRead}
use Rattle.trace_runner.specs.Checked.{Checked}
use Rattle.trace_runner.specs.Checked.Checked.{Whole, Stopped}
use Rattle.trace_replay.specs.declared.replay.Replay.{Replay}
use Rattle.trace_replay.specs.declared.status.Verdict.{Verdict}
use Rattle.trace_replay.specs.declared.status.Verdict.TheVariants.{Done}
use Rattle.trace_replay.proofs.ReaderSteps.{HoldsFrom, taken_holds}
use Rattle.trace_runner.proofs.Replayed.{replayed-record, replayed-end}

-- one record more, and one phase more
records_text-snoc : (ds : Deliveries) (b : BoardParts) (rs : List Record) (r : Record)
    → records_text ds b (rs ++ r ∷ []) ≡ records_text ds b rs ++ block_of ds r.line (answer_on (records_after b rs) r.cpu r.h r.call)
records_text-snoc ds b [] r = append-nil _
records_text-snoc ds b (x ∷ xs) r =
    let front : List ℕ = block_of ds x.line (answer_on b x.cpu x.h x.call) in
    let c : BoardParts = board_after_phases b x.cpu x.h x.call in
    ap (λ (l : List ℕ). front ++ l) (records_text-snoc ds c xs r) ∙ sym (append_assoc front (records_text ds c xs) _)

phases_text-snoc : (ds : Deliveries) (b : BoardParts) (vs : List Phase) (v : Phase)
    → phases_text ds b (vs ++ v ∷ []) ≡ phases_text ds b vs ++ phase_text ds (replayed b vs []) v
phases_text-snoc ds b [] v = append-nil _
phases_text-snoc ds b (x ∷ xs) v =
    let c : BoardParts = next_board x.end (records_after b x.records) in
    ap (λ (l : List ℕ). phase_text ds b x ++ l) (phases_text-snoc ds c xs v) ∙ sym (append_assoc (phase_text ds b x) (phases_text ds c xs) _)

replayed-last : (b : BoardParts) (vs : List Phase) (rs : List Record) → replayed b vs rs ≡ records_after (replayed b vs []) rs
replayed-last b [] rs = refl
replayed-last b (v ∷ vs) rs = replayed-last (next_board v.end (records_after b v.records)) vs rs

-- what was kept prints this, and leaves this board
abbrev text_of : Deliveries → BoardParts → List Phase → List Record → List ℕ
text_of ds b vs rs = phases_text ds b vs ++ records_text ds (replayed b vs []) rs

abbrev said : Checking → List ℕ
said s = text_of s.replay.deliveries s.opening s.phases s.last

text_of-record : (ds : Deliveries) (b : BoardParts) (vs : List Phase) (rs : List Record) (r : Record)
    → text_of ds b vs rs ++ block_of ds r.line (answer_on (replayed b vs rs) r.cpu r.h r.call) ≡ text_of ds b vs (rs ++ r ∷ [])
text_of-record ds b vs rs r =
    let c : BoardParts = replayed b vs [] in
    append_assoc (phases_text ds b vs) (records_text ds c rs) _
    ∙ ap (λ (x : BoardParts). phases_text ds b vs ++ (records_text ds c rs ++ block_of ds r.line (answer_on x r.cpu r.h r.call))) (replayed-last b vs rs)
    ∙ ap (λ (l : List ℕ). phases_text ds b vs ++ l) (sym (records_text-snoc ds c rs r))

text_of-end : (ds : Deliveries) (b : BoardParts) (vs : List Phase) (rs : List Record) (end : PhaseEnd)
    → text_of ds b vs rs ++ end_text ds end (replayed b vs rs) ≡ phases_text ds b (vs ++ record { records = rs; end = end } ∷ [])
text_of-end ds b vs rs end =
    let c : BoardParts = replayed b vs [] in
    append_assoc (phases_text ds b vs) (records_text ds c rs) _
    ∙ ap (λ (x : BoardParts). phases_text ds b vs ++ (records_text ds c rs ++ end_text ds end x)) (replayed-last b vs rs)
    ∙ sym (phases_text-snoc ds b vs (record { records = rs; end = end }))

-- before `begin` nothing was kept
abbrev Fresh : List ℕ → Stage → Type 0
Fresh text Opening = text ≡ []
Fresh text (Heading head) = text ≡ []
Fresh text _ = Unit {0}

abbrev IsRunning : Stage → Type 0
IsRunning (Running body) = Unit {0}
IsRunning _ = ⊥

abbrev FreshItem : List ℕ → Item → Stage → Type 0
FreshItem text (Begun header) t = text ≡ []
FreshItem text (Next rec) t = IsRunning t
FreshItem text End t = Unit {0}
FreshItem text _ t = Fresh text t

fresh_running : (text : List ℕ) (t : Stage) → IsRunning t → Fresh text t
fresh_running text (Running body) is = tt
fresh_running text _ is = absurd is

fresh_none : (t : Stage) → Fresh [] t
fresh_none Opening = refl
fresh_none (Heading head) = refl
fresh_none _ = tt

fresh_from : (text : List ℕ) (s : Stage) → Fresh text s → HoldsFrom (FreshItem text) s
fresh_from text Opening none = λ head. none
fresh_from text (Heading head) none = (none, λ more. none)
fresh_from text (Running body) none = (tt, λ rec. tt)
fresh_from text _ none = tt

-- the replay's board is that of what was kept
record IsKept (s : Checking) : Type 0 where
  board : s.replay.board ≡ replayed s.opening s.phases s.last
  fresh : Fresh (said s) s.replay.reading.stage

-- what a line does to both, where the replay has printed this
abbrev GoesSo : Answer Replay Verdict → Checking → List ℕ → Type 0
GoesSo (Goes block r) s front = (r ≡ s.replay) × (front ++ block ≡ said s) × IsKept s
GoesSo (Ends closing) s front = ⊥

abbrev EndsSo : Checked → Answer Replay Verdict → List ℕ → Type 0
EndsSo (Whole t) (Goes block r) front = ⊥
EndsSo (Whole t) (Ends closing) front = (closing.end ≡ Done) × (front ++ closing.text ≡ file_text t)
EndsSo (Stopped verdict) y front = Unit {0}

abbrev Together : Answer Replay Verdict → Answer Checking Checked → List ℕ → Type 0
Together y (Goes none s) front = GoesSo y s front
Together y (Ends closing) front = EndsSo closing.end y front

-- a record that is answered and kept
module _ (line cpu h : ℕ) (s : Checking) (board : s.replay.board ≡ replayed s.opening s.phases s.last) (runs : IsRunning s.replay.reading.stage) where
  abbrev b : BoardParts
  b = s.replay.board

  abbrev ds : Deliveries
  ds = s.replay.deliveries

  abbrev on : BoardParts → Checking
  on c = record s { replay = record s.replay { board = c } }

  abbrev So : Job → Answer BoardParts Verdict → Type 0
  So job x =
      let rec : Written = record { cpu = cpu; h = h; job = job } in
      Together (with_board x s.replay) (checked_by (with_board x s.replay) line rec s) (said s)

  goes_call : (call : Call) (block : List ℕ) (c : BoardParts) → block ≡ block_of ds line (answer_on b cpu h call) → c ≡ board_after_phases b cpu h call
      → GoesSo (Goes block (record s.replay { board = c })) (kept line (record { cpu = cpu; h = h; job = Ask call }) (Ask call) (on c)) (said s)
  goes_call call block c is next =
      let r : Record = record { line = line; cpu = cpu; h = h; call = call } in (
        refl,
        ap (λ (l : List ℕ). said s ++ l) is
            ∙ ap (λ (x : BoardParts). said s ++ block_of ds line (answer_on x cpu h call)) board
            ∙ text_of-record ds s.opening s.phases s.last r,
        record {
          board = next ∙ ap (λ (x : BoardParts). board_after_phases x cpu h call) board ∙ sym (replayed-record s.opening s.phases s.last r);
          fresh = fresh_running _ s.replay.reading.stage runs;
        },
      )

  goes_end : (end : PhaseEnd) (block : List ℕ) (c : BoardParts) → block ≡ end_text ds end b → c ≡ next_board end b
      → GoesSo (Goes block (record s.replay { board = c })) (with_end end (on c)) (said s)
  goes_end end block c is next =
      let v : Phase = record { records = s.last; end = end } in (
        refl,
        ap (λ (l : List ℕ). said s ++ l) is
            ∙ ap (λ (x : BoardParts). said s ++ end_text ds end x) board
            ∙ text_of-end ds s.opening s.phases s.last end
            ∙ sym (append-nil (phases_text ds s.opening (s.phases ++ v ∷ []))),
        record {
          board = next ∙ ap (λ (x : BoardParts). next_board end x) board ∙ sym (replayed-end s.opening s.phases v);
          fresh = fresh_running _ s.replay.reading.stage runs;
        },
      )

  unless_so : (call : Call) (o : Option Refused) (text : List ℕ) (c : BoardParts) → text ≡ block_of ds line (answer_on b cpu h call)
      → c ≡ board_after_phases b cpu h call → So (Ask call) (answer_unless o line text c)
  unless_so call None text c is next = goes_call call text c is next
  unless_so call (Some why) text c is next = tt

  save_so : (o : Option Refused) (text : List ℕ) (c : BoardParts) → text ≡ end_text ds (BySave line cpu h) b → c ≡ next_board (BySave line cpu h) b
      → So Save (answer_unless o line text c)
  save_so None text c is next = goes_end (BySave line cpu h) text c is next
  save_so (Some why) text c is next = tt

  move_so : (khz start gap : ℕ) (o : Option Refused) (text : List ℕ) (c : BoardParts)
      → (let end : PhaseEnd = ByMove line cpu h (record { khz = khz; start = start; gap = gap }) in text ≡ end_text ds end b → c ≡ next_board end b
      → So (Move khz start gap) (answer_unless o line text c))
  move_so khz start gap None text c is next = goes_end (ByMove line cpu h (record { khz = khz; start = start; gap = gap })) text c is next
  move_so khz start gap (Some why) text c is next = tt

  job_so : (job : Job) → So job (job_answer line cpu h job ds b)
  unfolding block_of
  job_so (Ask (Act a)) = unless_so (Act a) _ (block_of ds line (Acted (reply_of b cpu h a))) (after_access b cpu h a) refl refl
  job_so (Ask (ReadPage page)) = unless_so (ReadPage page) _ (page_text line (page_reply b page h)) b refl refl
  job_so (Ask (ReadClock page)) = unless_so (ReadClock page) _ (clock_text line (clock_reply b page h)) (after_clock b page h) refl refl
  job_so (Ask ReadHv) = unless_so ReadHv _ (hv_text line (hv_reply b h)) b refl refl
  job_so Save = save_so _ _ _ refl refl
  job_so (Move khz start gap) = move_so khz start gap _ _ _ refl refl

record_so : (line : ℕ) (rec : Written) (s : Checking) → s.replay.board ≡ replayed s.opening s.phases s.last → IsRunning s.replay.reading.stage
    → Together (record_answer line rec s.replay) (record_checked line rec s) (said s)
record_so line rec s board runs =
    cond_both (is_full s) (Ends (too_many line)) (checked_by (record_answer line rec s.replay) line rec s)
    (λ (x : Answer Checking Checked). Together (record_answer line rec s.replay) x (said s)) (λ _. tt)
    (λ _. job_so line rec.cpu rec.h s board runs rec.job)

-- by what a line is
item_so : (line : ℕ) (item : Item) (s : Checking) → s.replay.board ≡ replayed s.opening s.phases s.last
    → FreshItem (said s) item s.replay.reading.stage → Together (item_answer line item s.replay) (item_checked line item s) (said s)
item_so line (Begun header) s board none =
    (refl, append-nil (said s) ∙ none, record { board = refl; fresh = fresh_none s.replay.reading.stage })
item_so line (Next rec) s board runs = record_so line rec s board runs
item_so line End s board fresh =
    let v : Phase = record { records = s.last; end = Finish } in
    let text : said s ≡ phases_text s.replay.deliveries s.opening (s.phases ++ v ∷ []) =
    sym (append-nil (said s)) ∙ text_of-end s.replay.deliveries s.opening s.phases s.last Finish in
    let last : s.replay.board ≡ replayed s.opening (s.phases ++ v ∷ []) [] = board ∙ sym (replayed-end s.opening s.phases v) in
    (refl, λ i. text i ++ (ended s.replay.shows_state (last i)).text)
item_so line _ s board fresh = (refl, append-nil (said s), record { board = board; fresh = fresh })

fault_so : (line : ℕ) (fault : RecordFault) (s : Checking) (y : Answer Replay Verdict) (front : List ℕ)
    → EndsSo (fault_checked line fault s).end y front
fault_so line fault s y front =
    cond_both (is_full s && has_form fault.reason) (too_many line) (refusal (stops fault.line (Invalid fault.reason)))
    (λ (closing : Closing Checked). EndsSo closing.end y front) (λ _. tt) (λ _. tt)

answer_so : (line : ℕ) (s : Checking) (text : List ℕ) → IsKept s → Together (answer_of line s.replay text) (check_answer line s text) (said s)
unfolding answer_of check_answer
answer_so line s text kept_ = by_taken (taken s.replay.reading text) refl
  where
    by_taken : (x : Result Item RecordFault) → taken s.replay.reading text ≡ x
        → Together (taken_answer line x (record s.replay { reading = after_line text s.replay.reading })) (taken_checked line x (read_on text s)) (said s)
    by_taken (Ok item) is =
        let r : ReadingParts = s.replay.reading in
        let fresh = taken_holds (FreshItem (said s)) text r item kept_.fresh (fresh_from (said s) r.stage kept_.fresh) is in
        item_so line item (read_on text s) kept_.board fresh.1
    by_taken (Err fault) is = fault_so line fault (read_on text s) _ (said s)

-- by the bytes: the progress of the replay, by that of the check
abbrev twin : Progress Checking Checked → Progress Replay Verdict
twin c = record { line = c.line; text = c.text; state = c.state.replay; printed = said c.state; end = None }

abbrev Twins : Option Checked → Progress Replay Verdict → Progress Checking Checked → Type 0
Twins None p c = (p ≡ twin c) × IsKept c.state
Twins (Some (Whole t)) p c = (p.end ≡ Some Done) × (p.printed ≡ file_text t)
Twins (Some (Stopped verdict)) p c = Unit {0}

twins-ends : (e : Checked) (y : Answer Replay Verdict) (c d : Progress Checking Checked) → EndsSo e y (said c.state) → Twins (Some e) (told y (twin c)) d
twins-ends (Whole t) (Goes block r) c d so = absurd so
twins-ends (Whole t) (Ends closing) c d so = (ap (λ (v : Verdict). Some v) so.0, so.1)
twins-ends (Stopped verdict) y c d so = tt

twins-goes : (y : Answer Replay Verdict) (none : List ℕ) (s : Checking) (c : Progress Checking Checked) → GoesSo y s (said c.state)
    → Twins None (told y (twin c)) (told (Goes none s) c)
twins-goes (Goes block r) none s c so =
    (λ i. record { line = c.line + 1; text = []; state = so.0 i; printed = so.1 i; end = None }, so.2)
twins-goes (Ends closing) none s c so = absurd so

twins-told : (y : Answer Replay Verdict) (x : Answer Checking Checked) (c : Progress Checking Checked) → Together y x (said c.state)
    → Twins (told x c).end (told y (twin c)) (told x c)
twins-told y (Goes none s) c so = twins-goes y none s c so
twins-told y (Ends closing) c so = twins-ends closing.end y c (told (Ends closing) c) so

twins-answered : (c : Progress Checking Checked) → IsKept c.state
    → Twins (answered check_answer c).end (answered answer_of (twin c)) (answered check_answer c)
twins-answered c kept_ =
    twins-told (answer_of c.line c.state.replay c.text) (check_answer c.line c.state c.text) c (answer_so c.line c.state c.text kept_)

twins-cond : (t : Bool) (p q : Progress Replay Verdict) (c d : Progress Checking Checked) → Twins c.end p c → Twins d.end q d
    → Twins (cond t c d).end (cond t p q) (cond t c d)
twins-cond true p q c d x y = x
twins-cond false p q c d x y = y

twins-none : (c : Progress Checking Checked) → c.end ≡ None → IsKept c.state → Twins c.end (twin c) c
twins-none c none kept_ = subst (λ (e : Option Checked). Twins e (twin c) c) (sym none) (refl, kept_)

twins-heard : (b : ℕ) (c : Progress Checking Checked) → c.end ≡ None → IsKept c.state
    → Twins (heard check_answer None b c).end (heard answer_of None b (twin c)) (heard check_answer None b c)
twins-heard b c none kept_ =
    let longer : Progress Checking Checked = record c { text = c.text ++ b ∷ [] } in
    twins-cond (b == 10) (answered answer_of (twin c)) (checked answer_of (twin longer)) (answered check_answer c) (checked check_answer longer)
    (twins-answered c kept_)
    (twins-cond (ltb (limit_of longer.text) (length longer.text)) (answered answer_of (twin longer)) (twin longer) (answered check_answer longer) longer
    (twins-answered longer kept_) (twins-none longer none kept_))

twins-until : (end : Option Checked) (b : ℕ) (p : Progress Replay Verdict) (c : Progress Checking Checked) → c.end ≡ end → Twins end p c
    → Twins (heard check_answer end b c).end (heard answer_of p.end b p) (heard check_answer end b c)
twins-until None b p c is same =
    subst (λ (q : Progress Replay Verdict). Twins (heard check_answer None b c).end (heard answer_of q.end b q) (heard check_answer None b c)) (sym same.0)
    (twins-heard b c is same.1)
twins-until (Some (Whole t)) b p c is same =
    subst (λ (e : Option Checked). Twins e (heard answer_of p.end b p) c) (sym is)
    (subst (λ (e : Option Verdict). (let q = heard answer_of e b p in (q.end ≡ Some Done) × (q.printed ≡ file_text t))) (sym same.0) same)
twins-until (Some (Stopped verdict)) b p c is same =
    subst (λ (e : Option Checked). Twins e (heard answer_of p.end b p) c) (sym is) tt

twins-after : (bytes : List ℕ) (p : Progress Replay Verdict) (c : Progress Checking Checked) → Twins c.end p c
    → Twins (after_bytes check_answer bytes c).end (after_bytes answer_of bytes p) (after_bytes check_answer bytes c)
twins-after [] p c same = same
twins-after (b ∷ bs) p c same =
    twins-after bs (heard answer_of p.end b p) (heard check_answer c.end b c) (twins-until c.end b p c refl same)

twins-closed : (c : Progress Checking Checked) → c.end ≡ None → IsKept c.state
    → Twins (closed check_answer c).end (closed answer_of (twin c)) (closed check_answer c)
twins-closed c none kept_ =
    twins-cond (length c.text == 0) (twin c) (heard answer_of None 10 (twin c)) c (heard check_answer c.end 10 c)
    (twins-none c none kept_) (twins-until c.end 10 (twin c) c refl (twins-none c none kept_))

-- a check that came to a whole trace: the replay came to its end, and printed the trace's text
abbrev EndsWith : Checked → Closing Verdict → Type 0
EndsWith (Whole t) closing = (closing.end ≡ Done) × (closing.text ≡ file_text t)
EndsWith (Stopped verdict) closing = Unit {0}

twins-ran : (end : Option Checked) (p : Progress Replay Verdict) (c : Progress Checking Checked) → c.end ≡ end → Twins end p c
    → EndsWith (ran check_closing end c).end (ran closing_of p.end p)
twins-ran None p c is same = tt
twins-ran (Some (Whole t)) p c is same =
    subst (λ (e : Option Verdict). (let r = ran closing_of e p in (r.end ≡ Done) × (r.text ≡ file_text t))) (sym same.0) (refl, same.1)
twins-ran (Some (Stopped verdict)) p c is same = tt

twins-finished : (end : Option Checked) (p : Progress Replay Verdict) (c : Progress Checking Checked) → c.end ≡ end → Twins end p c
    → EndsWith (finished check_answer check_closing c).end (finished answer_of closing_of p)
twins-finished None p c is same =
    let d : Progress Checking Checked = closed check_answer c in
    subst (λ (x : Progress Replay Verdict). EndsWith (ran check_closing d.end d).end (finished answer_of closing_of x)) (sym same.0)
    (twins-ran d.end (closed answer_of (twin c)) d refl (twins-closed c is same.1))
twins-finished (Some (Whole t)) p c is same =
    subst (λ (r : Closing Checked). EndsWith r.end (finished answer_of closing_of p))
    (sym (replay-ended Checking Checked check_answer check_closing [] [] c (Whole t) is))
    (subst (λ (r : Closing Verdict). (r.end ≡ Done) × (r.text ≡ file_text t))
    (sym (replay-ended Replay Verdict answer_of closing_of [] [] p Done same.0)) (refl, same.1))
twins-finished (Some (Stopped verdict)) p c is same =
    subst (λ (r : Closing Checked). EndsWith r.end (finished answer_of closing_of p))
    (sym (replay-ended Checking Checked check_answer check_closing [] [] c (Stopped verdict) is)) tt

replay_so : (shows_state : Bool) (bytes : List ℕ) → EndsWith (check shows_state bytes).end (replay shows_state bytes)
unfolding check check_after replay progress_after
replay_so shows_state bytes =
    let c : Progress Checking Checked = opened (unchecked (at_start shows_state)) in
    let start : IsKept (unchecked (at_start shows_state)) = record { board = refl; fresh = refl } in
    let d : Progress Checking Checked = after_bytes check_answer bytes c in
    twins-finished d.end (after_bytes answer_of bytes (opened (at_start shows_state))) d refl
    (twins-after bytes (opened (at_start shows_state)) c (refl, start))

pub replay_whole : (shows_state : Bool) (bytes : List ℕ) (t : TraceRead) → (check shows_state bytes).end ≡ Whole t
    → ((replay shows_state bytes).end ≡ Done) × ((replay shows_state bytes).text ≡ file_text t)
replay_whole shows_state bytes t is = subst (λ (e : Checked). EndsWith e (replay shows_state bytes)) is (replay_so shows_state bytes)
