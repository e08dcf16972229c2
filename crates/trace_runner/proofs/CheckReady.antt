-- What is true of a check before each line stays true after it.
use Rattle.std.proofs.Common.{◌≡◌, ℕ, Bool, ◌+◌, ◌<◌, ◌≤◌, List, Option, None, Result, Ok, Err, OnOk, refl, sym, subst, ◌∙◌, arith}
use Rattle.std.proofs.lemmas.Bool.{cond_both, leb-false}
use Rattle.clk_units.specs.declared.NoMemory.{NoMemory}
use Rattle.board_types.specs.declared.parts.BoardParts.{BoardParts}
use Rattle.trace_text.specs.Lines.{taken, IsItem, IsRecordAt}
use Rattle.trace_text.specs.Records.{IsJob}
use Rattle.trace_records.specs.Calls.{IsFittingCall}
use Rattle.trace_text.specs.declared.records.Body.{Body}
use Rattle.trace_text.specs.declared.reading.Stage.{Stage}
use Rattle.trace_text.specs.declared.reading.Stage.TheVariants.{Running}
use Rattle.trace_records.specs.declared.Job.{Job}
use Rattle.trace_records.specs.declared.Job.TheVariants.{Ask, Save, Move}
use Rattle.trace_records.specs.declared.Record.{Record as Written}
use Rattle.trace_text.specs.declared.reading.Item.{Item}
use Rattle.trace_text.specs.declared.reading.Item.TheVariants.{Begun, Next, End}
use Rattle.trace_loop.specs.Progress.{Answer, Goes, Ends}
use Rattle.trace_loop.specs.Answered.{end_of, state_after}
use Rattle.trace_replay.specs.Records.{job_answer}
use Rattle.trace_replay.specs.Replay.{at_start, with_board, record_answer, item_answer}
use Rattle.trace_replay.specs.Ready.{IsRound, IsReady, JobSuits, Suits}
use Rattle.trace_runner.specs.Sound.{IsSound}
use Rattle.trace_runner.specs.Check.{
  kept,
  is_full,
  too_many,
  checked_by,
  record_checked,
  item_checked,
  read_on,
  unchecked,
  IsCheckReady,
}
use Rattle.trace_runner.specs.Checking.{Checking}
use Rattle.trace_runner.specs.Checked.{Checked}
use Rattle.trace_replay.specs.declared.status.Verdict.{Verdict}
use Rattle.trace_replay.proofs.ReadyNext.{ready_next}
use Rattle.trace_runner.proofs.Sounds.{Keeps, job_kept, read_sound, begun_sound, unchecked_sound}

-- before the first line
pub check_start : (shows_state : Bool) → IsCheckReady 1 (unchecked (at_start shows_state))
check_start shows_state = record {
  replay = record { count = refl; round = tt };
  few = omega arith;
  sound = unchecked_sound (at_start shows_state);
}

-- after a record that is kept
kept_ready : (line : ℕ) (rec : Written) (job : Job) (s : Checking) → s.taken < 200000 → IsReady (line + 1) s.replay
    → IsSound (kept line rec job s) → IsCheckReady (line + 1) (kept line rec job s)
kept_ready line rec (Ask call) s room ready sound = record { replay = ready; few = omega arith; sound = sound }
kept_ready line rec _ s room ready sound = record { replay = ready; few = omega arith; sound = sound }

-- after a record that is answered
answered_ready : (line : ℕ) (rec : Written) (s : Checking) (x : Answer BoardParts Verdict) → s.taken < 200000 → Keeps (kept line rec rec.job) s x
    → (end_of (with_board x s.replay) ≡ None → IsReady (line + 1) (state_after (with_board x s.replay) s.replay))
    → end_of (checked_by (with_board x s.replay) line rec s) ≡ None
    → IsCheckReady (line + 1) (state_after (checked_by (with_board x s.replay) line rec s) s)
answered_ready line rec s (Goes block b) room keeps next none =
    kept_ready line rec rec.job (record s { replay = record s.replay { board = b } }) room (next refl) keeps
answered_ready line rec s (Ends closing) room keeps next none = let no : ⊥ = cc in absurd no

record_ready : (line : ℕ) (rec : Written) (s : Checking) → IsSound s → Suits (Next rec) s.replay.board
    → (end_of (record_answer line rec s.replay) ≡ None → IsReady (line + 1) (state_after (record_answer line rec s.replay) s.replay))
    → end_of (record_checked line rec s) ≡ None → IsCheckReady (line + 1) (state_after (record_checked line rec s) s)
record_ready line rec s sound suits next =
    cond_both (is_full s) (Ends (too_many line)) (checked_by (record_answer line rec s.replay) line rec s)
    (λ (x : Answer Checking Checked). end_of x ≡ None → IsCheckReady (line + 1) (state_after x s)) (λ full none. let no : ⊥ = cc in absurd no)
    (λ free none.
    let room : s.taken < 200000 = leb-false 200000 s.taken free in
    answered_ready line rec s (job_answer line rec.cpu rec.h rec.job s.replay.deliveries s.replay.board) room
    (job_kept line rec rec.job s sound (omega arith) suits.0 suits.1) next none)

-- an item of a trace that goes on suits its board
job_suits : (job : Job) (body : Body) (b : BoardParts) → body.cpus ≡ b.cpus → body.format ≡ b.format → IsJob body job → JobSuits b.cpus b.format job
job_suits (Ask call) body b cpus format fits = subst (λ (z : ℕ × ℕ). IsFittingCall z.0 z.1 call) (λ k. (cpus k, format k)) fits
job_suits Save body b cpus format valid = tt
job_suits (Move khz start gap) body b cpus format rate = record { slow = rate.0; fast = rate.1 }

record_suits : (t : Stage) (rec : Written) (b : BoardParts) → IsRound t b → IsRecordAt t rec → Suits (Next rec) b
record_suits (Running body) rec b round valid =
    (subst (λ (n : ℕ). rec.cpu < n) round.0 valid.cpu, job_suits rec.job body b round.0 round.1 valid.job)
record_suits _ rec b round valid = absurd valid

item_suits : (t : Stage) (item : Item) (b : BoardParts) → IsRound t b → IsItem t item → Suits item b
item_suits t (Begun header) b round valid = valid
item_suits t (Next rec) b round valid = record_suits t rec b round valid
item_suits t _ b round valid = tt

-- after an item
item_ready : (line : ℕ) (item : Item) (s : Checking) → s.taken ≤ 200000 → IsSound s → Suits item s.replay.board
    → (end_of (item_answer line item s.replay) ≡ None → IsReady (line + 1) (state_after (item_answer line item s.replay) s.replay))
    → end_of (item_checked line item s) ≡ None → IsCheckReady (line + 1) (state_after (item_checked line item s) s)
item_ready line (Begun header) s few sound suits next none = record { replay = next refl; few = omega arith; sound = begun_sound header s }
item_ready line (Next rec) s few sound suits next none = record_ready line rec s sound suits next none
item_ready line End s few sound suits next none = let no : ⊥ = cc in absurd no
item_ready line _ s few sound suits next none = record { replay = next refl; few = few; sound = sound }

-- after a line that was read, as a fact of the next line
pub check_next : {A : Type 0} (res : Result A NoMemory) (end : Option Checked) (line : ℕ) (item : Item) (s t new : Checking) (text : List ℕ)
    → IsCheckReady line s
    → taken s.replay.reading text ≡ Ok item → IsItem s.replay.reading.stage item
    → t ≡ read_on text s → OnOk res (end ≡ end_of (item_checked line item t))
    → OnOk res (end ≡ None → new ≡ state_after (item_checked line item t) t) → OnOk res (end ≡ None → IsCheckReady (line + 1) new)
check_next (Err e) end line item s t new text ready took valid is ends state = tt
check_next (Ok done) end line item s t new text ready took valid is ends state = λ none.
    let next : end_of (item_checked line item t) ≡ None → IsCheckReady (line + 1) (state_after (item_checked line item t) t) =
    subst (λ (u : Checking). end_of (item_checked line item u) ≡ None → IsCheckReady (line + 1) (state_after (item_checked line item u) u)) (sym is)
    (item_ready line item (read_on text s) ready.few (read_sound text s ready.sound)
    (item_suits s.replay.reading.stage item s.replay.board ready.replay.round valid) (ready_next line s.replay text item ready.replay took)) in
    subst (IsCheckReady (line + 1)) (sym (state none)) (next (sym ends ∙ none))
