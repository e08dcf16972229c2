-- On one processor a race has one text: the blocks of its records in file order.
use Rattle.std.proofs.Common.{
  ◌≡◌,
  ℕ,
  zero,
  suc,
  ◌<◌,
  ◌≤◌,
  ◌==◌,
  max,
  Bool,
  true,
  false,
  if◌then◌else◌,
  List,
  [],
  ◌∷◌,
  ◌++◌,
  Some,
  refl,
  sym,
  ap,
  subst,
  ◌∙◌,
  append_assoc,
  append-nil,
  arith,
}
use Rattle.std.specs.Prelude.{All}
use Rattle.std.proofs.lemmas.List.Elements.{All-head, All-tail}
use Rattle.hv_page.specs.declared.page.HvPage.{HvPage}
use Rattle.board_core.specs.Hv.{hv_reply, hv_answer_by, hv_in}
use Rattle.board_types.specs.declared.parts.BoardParts.{BoardParts}
use Rattle.pvclock_page.specs.declared.page.Page.{Page}
use Rattle.pvclock_page.specs.declared.page.PageReply.{PageReply}
use Rattle.pvclock_page.specs.declared.page.PageReply.TheVariants.{Off as PageOff, On as PageOn}
use Rattle.pvclock_page.specs.declared.page.ClockReply.TheVariants.{Off, On}
use Rattle.board_core.specs.Pages.{page_reply, clamped, greatest_with, clock_reply, after_clock, with_greatest, reading_by, answer_by}
use Rattle.board_core.proofs.Laws.{after_access-cpus}
use Rattle.board_history.specs.Machine.{machine_of, page_at, ratio_in}
use Rattle.board_history.specs.History.{
  after_entry,
  board_after,
  pass_of,
  is_of,
  entries_of,
  May,
  LegalFrom,
  IsLegal,
}
use Rattle.board_history.specs.declared.entry.Entry.{Entry}
use Rattle.board_history.specs.declared.entry.Entry.TheVariants.{Opened, Board, PageRead, HvRead, Clamp}
use Rattle.board_history.proofs.Pages.{at-page}
use Rattle.board_history.proofs.Laws.{
  board_after-snoc,
  machine-stays,
  is_of-pass,
  LegalFrom-front,
  LegalFrom-rest,
}
use Rattle.trace_blocks.specs.declared.deliveries.Deliveries.{Deliveries}
use Rattle.trace_blocks.specs.Blocks.{block_of}
use Rattle.race_phase.specs.Calls.{IsFitting, records_of, CallMade, AllMade, Shown}
use Rattle.race_phase.specs.Phases.{IsPhase, end_entries, PhaseEnded, race_text}
use Rattle.trace_blocks.specs.Ends.{next_board, end_text}
use Rattle.trace_blocks.specs.declared.ends.End.{End}
use Rattle.trace_blocks.specs.declared.ends.End.TheVariants.{Finish, Save, Move}
use Rattle.race_phase.specs.declared.phases.Phase.{Phase}
use Rattle.trace_blocks.specs.declared.records.Answer.{Answer}
use Rattle.trace_blocks.specs.declared.records.Answer.TheVariants.{Acted, PageIs, ClockIs, HvIs}
use Rattle.trace_records.specs.declared.Call.{Call}
use Rattle.trace_records.specs.declared.Call.TheVariants.{Act, ReadPage, ReadClock, ReadHv}
use Rattle.trace_blocks.specs.declared.records.Record.{Record}
use Rattle.trace_runner.specs.FileText.{answer_on, records_text, phase_text, phases_text, file_text}
use Rattle.trace_runner.specs.Free.{IsFree}
use Rattle.trace_runner.specs.Race.{RacePrints}
use Rattle.trace_replay.specs.Replay.{ended}
use Rattle.trace_runner.specs.Replayed.{board_after_phases, records_after, replayed}
use Rattle.trace_runner.specs.Trace.{TraceRead}
use Rattle.trace_replay.proofs.ReadyNext.{moved-cpus}
use Rattle.board_history.proofs.Laws.{ratio-by}

-- no entry of a pass from 1 on
abbrev NoneElse : List Entry → Type 0
NoneElse es = (k : ℕ) → 1 ≤ k → entries_of k es ≡ []

none_in : (b : Bool) (e : Entry) (us : List Entry) → (if b then (e ∷ us) else us) ≡ [] → us ≡ []
none_in true e us none = absurd (cc none)
none_in false e us none = none

none_later : (e : Entry) (es : List Entry) → NoneElse (e ∷ es) → NoneElse es
none_later e es none k more = none_in (is_of k e) e (entries_of k es) (none k more)

-- then an entry of a pass is of pass 0
of_0 : (e : Entry) (es : List Entry) (n : ℕ) → pass_of e ≡ Some n → NoneElse (e ∷ es) → is_of 0 e ≡ true
of_0 e es zero is none = is_of-pass e 0 is
of_0 e es (suc k) is none =
    let none_here : (if is_of (suc k) e then (e ∷ entries_of (suc k) es) else entries_of (suc k) es) ≡ [] = none (suc k) (omega arith) in
    let here : e ∷ entries_of (suc k) es ≡ [] =
    subst (λ (b : Bool). (if b then (e ∷ entries_of (suc k) es) else entries_of (suc k) es) ≡ []) (is_of-pass e (suc k) is) none_here in
    absurd (cc here)

legal_of_0 : (before es : List Entry) (e : Entry) → May before e → NoneElse (e ∷ es) → is_of 0 e ≡ true
legal_of_0 before es (Opened s) may none = absurd may
legal_of_0 before es e may none = of_0 e es _ refl none

-- so a legal history without other passes has the entries of pass 0 alone, after its opening
alone_from : (before es : List Entry) → LegalFrom before es → NoneElse es → es ≡ entries_of 0 es
alone_from before [] l none = refl
alone_from before (e ∷ es) l none =
    ap (λ us. e ∷ us) (alone_from (before ++ e ∷ []) es l.1 (none_later e es none))
    ∙ sym (ap (λ (b : Bool). if b then (e ∷ entries_of 0 es) else entries_of 0 es) (legal_of_0 before es e l.0 none))

-- a page that is read is the board's
page_reply-is : (b : BoardParts) (cpu h : ℕ) → cpu < b.cpus → page_reply b cpu h ≡ answer_by (ratio_in b) (page_at b cpu) h
unfolding page_reply
page_reply-is b cpu h inside = ap (λ (page : Page). answer_by (ratio_in b) page h) (sym (at-page b cpu (λ e. omega arith)))

answer_at : (s b : BoardParts) (cpu h : ℕ) (page : Page) → machine_of b ≡ machine_of s → (cpu < b.cpus) × (page_at b cpu ≡ page)
    → page_reply b cpu h ≡ answer_by (ratio_in s) page h
answer_at s b cpu h page same here = page_reply-is b cpu h here.0 ∙ (λ i. answer_by (ratio-by b s same i) (here.1 i) h)

-- and so is the reference page
hv_answer_at : (s b : BoardParts) (h : ℕ) (page : HvPage) → machine_of b ≡ machine_of s → hv_in b.hv ≡ page
    → hv_reply b h ≡ hv_answer_by (ratio_in s) page h
unfolding hv_reply
hv_answer_at s b h page same here = λ i. hv_answer_by (ratio-by b s same i) (here i) h

answer_off : (ratio h : ℕ) (page : Page) → page.enabled ≡ false → answer_by ratio page h ≡ PageOff
answer_off ratio h page off = ap (λ (b : Bool). if b then PageOn page (reading_by ratio page h) else PageOff) off

answer_reads : (ratio h reading : ℕ) (page : Page) → page.enabled ≡ true → reading ≡ reading_by ratio page h
    → answer_by ratio page h ≡ PageOn page reading
answer_reads ratio h reading page on reads =
    ap (λ (b : Bool). if b then PageOn page (reading_by ratio page h) else PageOff) on ∙ ap (λ (n : ℕ). PageOn page n) (sym reads)

-- the clamp of a page that is off, and of one that gives a reading
clock-off : (b : BoardParts) (cpu h : ℕ) → page_reply b cpu h ≡ PageOff → (Off ≡ clock_reply b cpu h) × (b ≡ after_clock b cpu h)
unfolding clock_reply after_clock
clock-off b cpu h off = (
  sym (ap (clamped b.greatest) off),
  sym (ap (λ (r : PageReply). record b { greatest = greatest_with b.greatest r }) off),
)

clock-on : (b : BoardParts) (cpu h reading clock : ℕ) (page : Page) → page_reply b cpu h ≡ PageOn page reading → clock ≡ max reading b.greatest
    → (On reading clock ≡ clock_reply b cpu h) × (with_greatest b clock ≡ after_clock b cpu h)
unfolding clock_reply after_clock
clock-on b cpu h reading clock page on told = (
  ap (λ (c : ℕ). On reading c) told ∙ sym (ap (clamped b.greatest) on),
  ap (with_greatest b) told ∙ sym (ap (λ (r : PageReply). record b { greatest = greatest_with b.greatest r }) on),
)

-- the entries of a call, where no other pass comes between, say what the plain board says
abbrev IsPlain : List Entry → List Entry → ℕ → ℕ → Call → Answer → Type 0
IsPlain before first cpu h call a =
    (a ≡ answer_on (board_after before) cpu h call) × (board_after (before ++ first) ≡ board_after_phases (board_after before) cpu h call)

module _ (s : BoardParts) (n cpu h : ℕ) (before first : List Entry) where
  -- the board after a call that made one entry
  after_one : (e : Entry) → first ≡ e ∷ [] → board_after (before ++ first) ≡ after_entry (board_after before) e
  after_one e made = ap (λ es. board_after (before ++ es)) made ∙ board_after-snoc before e

  call_plain : (call : Call) (a : Answer) → machine_of (board_after before) ≡ machine_of s → LegalFrom before first → CallMade s n cpu h call a first
      → IsPlain before first cpu h call a
  call_plain (Act a) (Acted reply) same legal made =
      let may = (subst (LegalFrom before) made legal).0 in (ap (λ r. Acted r) (sym may.reply), after_one (Board n cpu h a reply) made)
  call_plain (ReadPage k) (PageIs reply) same legal made =
      let may = (subst (LegalFrom before) made.3 legal).0 in (
        ap (λ r. PageIs r) (made.2 ∙ sym (answer_at s (board_after before) k h made.0 same may)),
        after_one (PageRead n k h made.0 made.1) made.3,
      )
  call_plain (ReadClock k) (ClockIs Off) same legal made =
      let b : BoardParts = board_after before in
      let may = (subst (LegalFrom before) made.3 legal).0 in
      let off = clock-off b k h (answer_at s b k h made.0 same may ∙ answer_off (ratio_in s) h made.0 made.2) in
      (ap (λ r. ClockIs r) off.0, after_one (PageRead n k h made.0 made.1) made.3 ∙ off.1)
  call_plain (ReadClock k) (ClockIs (On reading clock)) same legal made =
      let b : BoardParts = board_after before in
      let e : Entry = PageRead n k h made.0 made.1 in
      let f : Entry = Clamp n k reading clock in
      let both : LegalFrom before (e ∷ f ∷ []) = subst (LegalFrom before) made.4 legal in
      let after : board_after (before ++ e ∷ []) ≡ b = board_after-snoc before e in
      let told : clock ≡ max reading b.greatest = both.1.0.1 ∙ ap (λ (x : BoardParts). max reading x.greatest) after in
      let on = clock-on b k h reading clock made.0
      (answer_at s b k h made.0 same both.0 ∙ answer_reads (ratio_in s) h reading made.0 made.2 made.3) told in (
        ap (λ r. ClockIs r) on.0,
        ap (λ es. board_after (before ++ es)) made.4 ∙ ap board_after (sym (append_assoc before (e ∷ []) (f ∷ [])))
            ∙ board_after-snoc (before ++ e ∷ []) f ∙ ap (λ (x : BoardParts). with_greatest x clock) after ∙ on.1,
      )
  call_plain ReadHv (HvIs reply) same legal made =
      let may = (subst (LegalFrom before) made.3 legal).0 in (
        ap (λ r. HvIs r) (made.2 ∙ sym (hv_answer_at s (board_after before) h made.0 same may)),
        after_one (HvRead n h made.0 made.1) made.3,
      )
  call_plain _ _ same legal made = absurd made

-- so do those of all its records
records_plain : (s : BoardParts) (ds : Deliveries) (n : ℕ) (rs : List Record) (before later : List Entry) (out : List ℕ)
    → machine_of (board_after before) ≡ machine_of s → LegalFrom before later → AllMade s ds n rs out later
    → (out ≡ records_text ds (board_after before) rs) × (board_after (before ++ later) ≡ records_after (board_after before) rs)
records_plain s ds n [] before later out same legal made =
    (made.0, ap (λ es. board_after (before ++ es)) made.1 ∙ ap board_after (append-nil before))
records_plain s ds n (r ∷ rs) before later out same legal made =
    let b : BoardParts = board_after before in
    let a : Answer = made.0 in
    let more : List ℕ = made.1 in
    let first : List Entry = made.2 in
    let rest : List Entry = made.3 in
    let all : LegalFrom before (first ++ rest) = subst (LegalFrom before) made.5 legal in
    let front : LegalFrom before first = LegalFrom-front before first rest all in
    let step = call_plain s n r.cpu r.h before first r.call a same front made.6 in
    let next = records_plain s ds n rs (before ++ first) rest more (machine-stays before first front ∙ same) (LegalFrom-rest before first rest all) made.7 in (
      made.4 ∙ ap (λ (x : Answer). block_of ds r.line x ++ more) step.0
          ∙ ap (λ (l : List ℕ). block_of ds r.line (answer_on b r.cpu r.h r.call) ++ l) (next.0 ∙ ap (λ (c : BoardParts). records_text ds c rs) step.1),
      ap (λ es. board_after (before ++ es)) made.5 ∙ ap board_after (sym (append_assoc before first rest)) ∙ next.1
          ∙ ap (λ (c : BoardParts). records_after c rs) step.1,
    )

-- all records are those of processor 0
records_of-0 : (rs : List Record) (format : ℕ) → All (IsFitting 1 format) rs → records_of 0 rs ≡ rs
records_of-0 [] format fit = refl
records_of-0 (r ∷ rs) format fit =
    let here : r.cpu < 1 = (All-head (IsFitting 1 format) r rs fit).0 in
    let none : r.cpu ≡ 0 = omega (arith, here) in
    ap (λ (n : ℕ). if n == 0 then (r ∷ records_of 0 rs) else records_of 0 rs) none
    ∙ ap (λ us. r ∷ us) (records_of-0 rs format (All-tail (IsFitting 1 format) r rs fit))

-- a phase
phase_plain : (b : BoardParts) (ds : Deliveries) (v : Phase) (next : BoardParts) (out : List ℕ) (format : ℕ) → b.cpus ≡ 1
    → All (IsFitting 1 format) v.records → PhaseEnded b ds v next out
    → (out ≡ phase_text ds b v) × (next ≡ next_board v.end (records_after b v.records))
phase_plain b ds v next out format one fit e =
    let rs : List Record = v.records in
    let later : List Entry = e.opens.0 in
    let whole : e.h ≡ Opened b ∷ later = e.opens.1 in
    let tail : List Entry = end_entries v.end (board_after e.h) in
    let legal : LegalFrom (Opened b ∷ []) later =
    LegalFrom-front (Opened b ∷ []) later tail (subst (λ (es : List Entry). IsLegal (es ++ tail)) whole e.legal) in
    let none : NoneElse later = λ k more. sym (ap (entries_of k) whole) ∙ e.none_else k (subst (λ (m : ℕ). m ≤ k) (sym one) more) in
    let mine : entries_of 0 e.h ≡ later = ap (entries_of 0) whole ∙ sym (alone_from (Opened b ∷ []) later legal none) in
    let shown : Shown b ds rs e.h 0 1 e.block = subst (λ (m : ℕ). Shown b ds rs e.h 0 m e.block) one e.shown in
    let made : AllMade b ds 0 rs shown.0 later =
    subst (λ (us : List Record). AllMade b ds 0 us shown.0 later) (records_of-0 rs format fit)
    (subst (λ (es : List Entry). AllMade b ds 0 (records_of 0 rs) shown.0 es) mine shown.3) in
    let told = records_plain b ds 0 rs (Opened b ∷ []) later shown.0 refl legal made in
    let block : e.block ≡ records_text ds b rs = shown.2 ∙ ap (λ (l : List ℕ). shown.0 ++ l) shown.5 ∙ append-nil shown.0 ∙ told.0 in
    let left : board_after e.h ≡ records_after b rs = ap board_after whole ∙ told.1 in (
      e.text ∙ (λ i. block i ++ end_text ds v.end (left i)),
      e.leaves ∙ ap (next_board v.end) left,
    )

-- no record changes how many processors there are, nor does the end of a phase
board_after_phases-cpus : (b : BoardParts) (cpu h : ℕ) (call : Call) → (board_after_phases b cpu h call).cpus ≡ b.cpus
unfolding after_clock
board_after_phases-cpus b cpu h (Act a) = after_access-cpus b cpu h a
board_after_phases-cpus b cpu h _ = refl

records_after-cpus : (b : BoardParts) (rs : List Record) → (records_after b rs).cpus ≡ b.cpus
records_after-cpus b [] = refl
records_after-cpus b (r ∷ rs) = records_after-cpus (board_after_phases b r.cpu r.h r.call) rs ∙ board_after_phases-cpus b r.cpu r.h r.call

next_board-cpus : (end : End) (b : BoardParts) → (next_board end b).cpus ≡ b.cpus
next_board-cpus Finish b = refl
next_board-cpus (Save line cpu h) b = after_access-cpus b cpu h _
next_board-cpus (Move line cpu h host) b = moved-cpus host.khz host.start host.gap _ ∙ after_access-cpus b cpu h _

-- phases, one after another
phases_plain : (ds : Deliveries) (vs : List Phase) (b state : BoardParts) (out : List ℕ) (format : ℕ) → b.cpus ≡ 1
    → All (IsPhase 1 format) vs → race_text ds b vs state out
    → (out ≡ phases_text ds b vs) × (state ≡ replayed b vs [])
phases_plain ds [] b state out format one fits told = (told.1, told.0)
phases_plain ds (v ∷ vs) b state out format one fits told =
    let fit : IsPhase 1 format v = All-head (IsPhase 1 format) v vs fits in
    let here = phase_plain b ds v told.0 told.1 format one fit.records told.4 in
    let cpus : told.0.cpus ≡ 1 = ap (λ (c : BoardParts). c.cpus) here.1 ∙ next_board-cpus v.end (records_after b v.records)
    ∙ records_after-cpus b v.records ∙ one in
    let next = phases_plain ds vs told.0 state told.2 format cpus (All-tail (IsPhase 1 format) v vs fits) told.5 in (
      told.3 ∙ (λ i. here.0 i ++ next.0 i) ∙ ap (λ (c : BoardParts). phase_text ds b v ++ phases_text ds c vs) here.1,
      next.1 ∙ ap (λ (c : BoardParts). replayed c vs []) here.1,
    )

-- what a race prints on one processor
pub prints_plain : (t : TraceRead) (out : List ℕ) → IsFree t.opening t.phases → t.opening.cpus ≡ 1 → RacePrints t out → out ≡ file_text t
prints_plain t out free one p =
    let fits : All (IsPhase 1 t.opening.format) t.phases = subst (λ (m : ℕ). All (IsPhase m t.opening.format) t.phases) one free.fit in
    let told = phases_plain t.deliveries t.phases t.opening p.0 p.1 t.opening.format one fits p.2 in
    p.3 ∙ (λ i. told.0 i ++ (ended t.shows_state (told.1 i)).text)
