-- A record that a check keeps leaves it without a fault.
use Rattle.std.proofs.Common.{
  ◌≡◌,
  ℕ,
  ◌<◌,
  ◌≤◌,
  ◌^◌,
  List,
  [],
  ◌∷◌,
  length,
  length-append,
  Option,
  Some,
  None,
  refl,
  sym,
  ap,
  subst,
  ◌∙◌,
  arith,
}
use Rattle.std.proofs.lemmas.List.Elements.{All-nil, All-push}
use Rattle.board_types.specs.declared.parts.BoardParts.{BoardParts}
use Rattle.board_core.specs.Access.{after_access}
use Rattle.board_core.specs.Pages.{after_clock}
use Rattle.board_core.specs.Refusals.{meters_of}
use Rattle.board_meters.specs.declared.meters.Meters.{Meters}
use Rattle.host_counter.specs.declared.Anchor.{Anchor}
use Rattle.board_core.proofs.Laws.{meters_of-access}
use Rattle.trace_blocks.specs.declared.deliveries.Deliveries.{Deliveries}
use Rattle.reply_text.specs.declared.ends.Refused.{Refused}
use Rattle.trace_text.specs.declared.header.Header.{Header}
use Rattle.trace_records.specs.declared.Job.{Job}
use Rattle.trace_records.specs.declared.Job.TheVariants.{Ask, Save, Move}
use Rattle.trace_records.specs.declared.Record.{Record as Written}
use Rattle.trace_loop.specs.Progress.{Answer, Goes, Ends}
use Rattle.trace_replay.specs.Records.{answer_unless, end_answer, job_answer}
use Rattle.trace_blocks.specs.Refusals.{count_refusal, call_refusal}
use Rattle.trace_replay.specs.Replay.{with_header}
use Rattle.trace_replay.specs.Ready.{JobSuits}
use Rattle.trace_records.specs.Calls.{IsFittingCall}
use Rattle.race_phase.specs.Calls.{IsFitting}
use Rattle.race_phase.specs.Order.{
  record_refusal,
  after_call,
  after_record,
  after_records,
  records_refusal,
}
use Rattle.race_phase.specs.Phases.{IsPhase}
use Rattle.trace_blocks.specs.Ends.{IsEnd, next_board, next_meters, end_refusal}
use Rattle.trace_runner.specs.Check.{unchecked, with_end, ended_by, kept, read_on}
use Rattle.trace_runner.specs.Checking.{Checking}
use Rattle.trace_runner.specs.Free.{after_phases, IsFree}
use Rattle.trace_runner.specs.Sound.{IsSound}
use Rattle.race_phase.specs.declared.phases.Phase.{Phase}
use Rattle.trace_records.specs.declared.Call.{Call}
use Rattle.trace_records.specs.declared.Call.TheVariants.{Act, ReadPage, ReadClock, ReadHv}
use Rattle.trace_blocks.specs.declared.ends.End.{End}
use Rattle.trace_blocks.specs.declared.ends.End.TheVariants.{
  Finish,
  Save as BySave,
  Move as ByMove,
}
use Rattle.trace_blocks.specs.declared.records.Record.{Record}
use Rattle.trace_replay.specs.declared.replay.Replay.{Replay}
use Rattle.trace_replay.specs.declared.status.Verdict.{Verdict}
use Rattle.race_phase.proofs.Checked.{or_both, after_records-snoc, records_refusal-snoc}
use Rattle.trace_runner.proofs.FileOrder.{after_phases-snoc, trace_refusal-snoc}
use Rattle.race_phase.proofs.Same.{meters_of-next}
use Rattle.trace_replay.proofs.ReadyNext.{Same, same_job}

-- the meters of a board have its anchor, and a read of the clock leaves them
meters-anchor : (b : BoardParts) → (meters_of b).anchor ≡ b.anchor
unfolding meters_of
meters-anchor b = refl

pub meters-clock : (b : BoardParts) (page h : ℕ) → meters_of (after_clock b page h) ≡ meters_of b
unfolding after_clock meters_of
meters-clock b page h = refl

-- an answer that goes on isn't refused in file order, and leaves a board of those meters
abbrev Goes_on : Option Refused → Meters → Answer BoardParts Verdict → Type 0
Goes_on refusal next (Goes text b) = (refusal ≡ None) × (meters_of b ≡ next)
Goes_on refusal next (Ends closing) = Unit {0}

goes : (o : Option Refused) (line : ℕ) (text : List ℕ) (b : BoardParts) (next : Meters) → meters_of b ≡ next → Goes_on o next (answer_unless o line text b)
goes None line text b next is = (refl, is)
goes (Some why) line text b next is = tt

module _ (b : BoardParts) (line cpu h : ℕ) (ds : Deliveries) where
  read_goes : (text : List ℕ) (c : BoardParts) → meters_of c ≡ meters_of b
      → Goes_on (count_refusal (meters_of b).anchor h) (meters_of b) (answer_unless (count_refusal b.anchor h) line text c)
  read_goes text c is =
      subst (λ (anchor : Anchor). Goes_on (count_refusal (meters_of b).anchor h) (meters_of b) (answer_unless (count_refusal anchor h) line text c)) (meters-anchor b)
      (goes (count_refusal (meters_of b).anchor h) line text c (meters_of b) is)

  call_goes : (call : Call) → Goes_on (call_refusal (meters_of b) cpu h call) (after_call (meters_of b) cpu h call) (job_answer line cpu h (Ask call) ds b)
  call_goes (Act a) = goes _ line _ (after_access b cpu h a) _ (meters_of-access b cpu h a)
  call_goes (ReadPage page) = read_goes _ b refl
  call_goes (ReadClock page) = read_goes _ (after_clock b page h) (meters-clock b page h)
  call_goes ReadHv = read_goes _ b refl

  end_goes : (end : End) → Goes_on (end_refusal (meters_of b) end) (next_meters end (meters_of b)) (end_answer line end ds b)
  end_goes end = goes (end_refusal (meters_of b) end) line _ (next_board end b) _ (meters_of-next end b)

-- the meters of file order after what was kept
abbrev now : Checking → Meters
now s = after_records (after_phases (meters_of s.opening) s.phases) s.last

-- what is kept is sound
abbrev pub Keeps : (Checking → Checking) → Checking → Answer BoardParts Verdict → Type 0
Keeps keep s (Goes text b) = IsSound (keep (record s { replay = record s.replay { board = b } }))
Keeps keep s (Ends closing) = Unit {0}

-- a phase that ends without a fault
pub ended_free : (end : End) (s : Checking) → IsSound s → s.taken ≤ 200000 → IsEnd s.opening.cpus end → end_refusal (now s) end ≡ None
    → IsFree s.opening (ended_by end s)
ended_free end s sound few fits none =
    let v : Phase = record { records = s.last; end = end } in
    let p : Meters = after_phases (meters_of s.opening) s.phases in
    let short : length s.last ≤ 2 ^ 62 = omega (arith, sound.few) in
    let fit : IsPhase s.opening.cpus s.opening.format v = record { records = sound.fit; few = short; end = fits } in
    record {
      fit = All-push (IsPhase s.opening.cpus s.opening.format) s.phases v sound.done.fit fit;
      free = trace_refusal-snoc (meters_of s.opening) s.phases v sound.done.free (or_both (records_refusal p s.last) (end_refusal (now s) end) sound.free none);
    }

call_kept : (line : ℕ) (rec : Written) (call : Call) (s : Checking) (x : Answer BoardParts Verdict) → IsSound s → rec.cpu < s.opening.cpus
    → IsFittingCall s.opening.cpus s.opening.format call → Same s.replay.board x
    → (let r : Record = record { line = line; cpu = rec.cpu; h = rec.h; call = call } in Goes_on (record_refusal (now s) r) (after_record (now s) r) x
    → Keeps (kept line rec (Ask call)) s x)
call_kept line rec call s (Goes text b) sound there fits same = λ goes.
    let r : Record = record { line = line; cpu = rec.cpu; h = rec.h; call = call } in
    let p : Meters = after_phases (meters_of s.opening) s.phases in
    record {
      done = sound.done;
      fit = All-push (IsFitting s.opening.cpus s.opening.format) s.last r sound.fit (there, fits);
      free = records_refusal-snoc p s.last r sound.free goes.0;
      meters = goes.1 ∙ sym (after_records-snoc p s.last r);
      cpus = same.0 ∙ sound.cpus;
      format = same.1 ∙ sound.format;
      few = omega (arith, length-append s.last (r ∷ []), sound.few);
    }
call_kept line rec call s (Ends closing) sound there fits same = λ goes. tt

end_kept : (end : End) (s : Checking) (x : Answer BoardParts Verdict) → IsSound s → s.taken ≤ 200000 → IsEnd s.opening.cpus end → Same s.replay.board x
    → Goes_on (end_refusal (now s) end) (next_meters end (now s)) x → Keeps (with_end end) s x
end_kept end s (Goes text b) sound few fits same goes =
    let v : Phase = record { records = s.last; end = end } in
    record {
      done = ended_free end s sound few fits goes.0;
      fit = All-nil (IsFitting s.opening.cpus s.opening.format);
      free = refl;
      meters = goes.1 ∙ sym (after_phases-snoc (meters_of s.opening) s.phases v);
      cpus = same.0 ∙ sound.cpus;
      format = same.1 ∙ sound.format;
      few = omega arith;
    }
end_kept end s (Ends closing) sound few fits same goes = tt

-- a record that suits the board, and is answered on it
pub job_kept : (line : ℕ) (rec : Written) (job : Job) (s : Checking) → IsSound s → s.taken ≤ 200000 → rec.cpu < s.replay.board.cpus
    → JobSuits s.replay.board.cpus s.replay.board.format job → Keeps (kept line rec job) s (job_answer line rec.cpu rec.h job s.replay.deliveries s.replay.board)
job_kept line rec job s sound few there suits = by_job job suits
  where
    ds : Deliveries
    ds = s.replay.deliveries

    cpu : rec.cpu < s.opening.cpus
    cpu = subst (λ (n : ℕ). rec.cpu < n) sound.cpus there

    same : (j : Job) → Same s.replay.board (job_answer line rec.cpu rec.h j s.replay.deliveries s.replay.board)
    same j = same_job line rec.cpu rec.h j s.replay.deliveries s.replay.board

    by_end : (end : End) → IsEnd s.opening.cpus end → Same s.replay.board (end_answer line end ds s.replay.board)
        → Keeps (with_end end) s (end_answer line end ds s.replay.board)
    by_end end fits stays =
        end_kept end s _ sound few fits stays
        (subst (λ (m : Meters). Goes_on (end_refusal m end) (next_meters end m) (end_answer line end ds s.replay.board)) sound.meters
        (end_goes s.replay.board line rec.cpu rec.h ds end))

    by_job : (j : Job) → JobSuits s.replay.board.cpus s.replay.board.format j
        → Keeps (kept line rec j) s (job_answer line rec.cpu rec.h j s.replay.deliveries s.replay.board)
    by_job (Ask call) suited =
        call_kept line rec call s _ sound cpu (subst (λ (z : ℕ × ℕ). IsFittingCall z.0 z.1 call) (λ k. (sound.cpus k, sound.format k)) suited)
        (same (Ask call))
        (subst (λ (m : Meters). Goes_on (call_refusal m rec.cpu rec.h call) (after_call m rec.cpu rec.h call) (job_answer line rec.cpu rec.h (Ask call) ds s.replay.board))
        sound.meters
        (call_goes s.replay.board line rec.cpu rec.h ds call))
    by_job Save suited = by_end (BySave line rec.cpu rec.h) cpu (same Save)
    by_job (Move khz start gap) rate =
        by_end (ByMove line rec.cpu rec.h (record { khz = khz; start = start; gap = gap })) (cpu, rate) (same (Move khz start gap))

-- the reader goes on; a header begins a trace
pub read_sound : (text : List ℕ) (s : Checking) → IsSound s → IsSound (read_on text s)
read_sound text s sound = record {
  done = sound.done;
  fit = sound.fit;
  free = sound.free;
  meters = sound.meters;
  cpus = sound.cpus;
  format = sound.format;
  few = sound.few;
}

nothing_free : (b : BoardParts) → IsFree b []
nothing_free b = record { fit = All-nil (IsPhase b.cpus b.format); free = refl }

-- no record was checked yet
pub unchecked_sound : (r : Replay) → IsSound (unchecked r)
unchecked_sound r = record {
  done = nothing_free r.board;
  fit = All-nil (IsFitting r.board.cpus r.board.format);
  free = refl;
  meters = refl;
  cpus = refl;
  format = refl;
  few = omega arith;
}

pub begun_sound : (header : Header) (s : Checking) → IsSound (unchecked (with_header header s.replay))
begun_sound header s = unchecked_sound (with_header header s.replay)

-- the trace at its end
pub whole_free : (s t : Checking) (b : BoardParts) (vs : List Phase) → IsSound s → s.taken ≤ 200000 → t ≡ with_end Finish s → b ≡ t.opening
    → vs ≡ t.phases → IsFree b vs
whole_free s t b vs sound few is at phases =
    let b_is : b ≡ s.opening = at ∙ ap (λ (u : Checking). u.opening) is in
    let vs_is : vs ≡ ended_by Finish s = phases ∙ ap (λ (u : Checking). u.phases) is in
    subst (λ (c : BoardParts). IsFree c vs) (sym b_is)
    (subst (λ (ws : List Phase). IsFree s.opening ws) (sym vs_is) (ended_free Finish s sound few tt refl))
