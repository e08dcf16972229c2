-- A check prints nothing but a refusal.
use Rattle.std.proofs.Common.{◌≡◌, ℕ, Bool, ◌&&◌, List, [], ◌++◌, Option, Some, None, Result, Ok, Err, refl, subst}
use Rattle.std.proofs.lemmas.Bool.{cond_both}
use Rattle.reply_text.specs.declared.ends.Refused.TheVariants.{Invalid}
use Rattle.trace_text.specs.Lines.{taken}
use Rattle.trace_text.specs.declared.faults.RecordFault.{RecordFault}
use Rattle.trace_text.specs.declared.reading.Item.{Item}
use Rattle.trace_text.specs.declared.reading.Item.TheVariants.{Next}
use Rattle.trace_records.specs.declared.Record.{Record as Written}
use Rattle.trace_loop.specs.Progress.{Closing, Answer, Goes, Ends, Progress, opened, told, answered, after_bytes, closed, ran, finished}
use Rattle.trace_replay.specs.Records.{stops}
use Rattle.trace_replay.specs.Replay.{record_answer, at_start}
use Rattle.trace_runner.specs.Check.{
  has_form,
  is_full,
  too_many,
  refusal,
  checked_by,
  record_checked,
  item_checked,
  fault_checked,
  taken_checked,
  read_on,
  check_answer,
  check_closing,
  check_after,
  check,
  unchecked,
}
use Rattle.trace_runner.specs.Checking.{Checking}
use Rattle.trace_runner.specs.Trace.{TraceRead}
use Rattle.trace_runner.specs.Checked.{Checked}
use Rattle.trace_runner.specs.Checked.Checked.{Whole, Stopped}
use Rattle.trace_replay.specs.declared.replay.Replay.{Replay}
use Rattle.trace_replay.specs.declared.status.Verdict.{Verdict}
use Rattle.trace_replay.proofs.Stays.{stays, stays-closed}

-- nothing is printed before the end, nor with a whole trace
abbrev Silent : Option Checked → List ℕ → Type 0
Silent None text = text ≡ []
Silent (Some (Whole trace)) text = text ≡ []
Silent (Some (Stopped verdict)) text = Unit {0}

abbrev SilentAnswer : Answer Checking Checked → Type 0
SilentAnswer (Goes block s) = block ≡ []
SilentAnswer (Ends closing) = Silent (Some closing.end) closing.text

abbrev IsQuiet : Progress Checking Checked → Type 0
IsQuiet p = Silent p.end p.printed

-- by what a line is
silent_by : (x : Answer Replay Verdict) (line : ℕ) (rec : Written) (s : Checking) → SilentAnswer (checked_by x line rec s)
silent_by (Goes block r) line rec s = refl
silent_by (Ends closing) line rec s = tt

silent_record : (line : ℕ) (rec : Written) (s : Checking) → SilentAnswer (record_checked line rec s)
silent_record line rec s =
    cond_both (is_full s) (Ends (too_many line)) (checked_by (record_answer line rec s.replay) line rec s) SilentAnswer (λ _. tt)
    (λ _. silent_by (record_answer line rec s.replay) line rec s)

silent_fault : (line : ℕ) (fault : RecordFault) (s : Checking) → SilentAnswer (Ends (fault_checked line fault s))
silent_fault line fault s =
    cond_both (is_full s && has_form fault.reason) (too_many line) (refusal (stops fault.line (Invalid fault.reason)))
    (λ (closing : Closing Checked). SilentAnswer (Ends closing)) (λ _. tt) (λ _. tt)

silent_item : (line : ℕ) (item : Item) (s : Checking) → SilentAnswer (item_checked line item s)
silent_item line (Next rec) s = silent_record line rec s
silent_item line _ s = refl

silent_taken : (line : ℕ) (x : Result Item RecordFault) (s : Checking) → SilentAnswer (taken_checked line x s)
silent_taken line (Ok item) s = silent_item line item s
silent_taken line (Err fault) s = silent_fault line fault s

silent_front : (e : Checked) (front text : List ℕ) → front ≡ [] → Silent (Some e) text → Silent (Some e) (front ++ text)
silent_front (Whole trace) front text is silent = rw (is, silent) refl
silent_front (Stopped verdict) front text is silent = tt

-- by the bytes
quiet-told : (a : Answer Checking Checked) (p : Progress Checking Checked) → SilentAnswer a → p.printed ≡ [] → IsQuiet (told a p)
quiet-told (Goes block s) p silent is = rw (is, silent) refl
quiet-told (Ends closing) p silent is = silent_front closing.end p.printed closing.text is silent

quiet-answered : (p : Progress Checking Checked) → p.end ≡ None → IsQuiet p → IsQuiet (answered check_answer p)
unfolding check_answer
quiet-answered p none quiet =
    quiet-told (taken_checked p.line (taken p.state.replay.reading p.text) (read_on p.text p.state)) p
    (silent_taken p.line (taken p.state.replay.reading p.text) (read_on p.text p.state))
    (subst (λ (e : Option Checked). Silent e p.printed) none quiet)

quiet-after : (shows_state : Bool) (bytes : List ℕ) → IsQuiet (after_bytes check_answer bytes (opened (unchecked (at_start shows_state))))
quiet-after shows_state bytes = stays check_answer IsQuiet quiet-answered (λ b p none quiet. quiet) bytes (opened (unchecked (at_start shows_state))) refl

silent_ran : (end : Option Checked) (p : Progress Checking Checked) → p.end ≡ end → IsQuiet p
    → SilentAnswer (Ends (ran check_closing end p))
silent_ran None p is quiet = tt
silent_ran (Some e) p is quiet = subst (λ (x : Option Checked). Silent x p.printed) is quiet

silent_finished : (p : Progress Checking Checked) → IsQuiet p → SilentAnswer (Ends (finished check_answer check_closing p))
silent_finished p quiet =
    let t : Progress Checking Checked = closed check_answer p in
    silent_ran t.end t refl (stays-closed check_answer IsQuiet quiet-answered (λ b q none same. same) p quiet)

silent_check : (shows_state : Bool) (bytes : List ℕ) → SilentAnswer (Ends (check shows_state bytes))
unfolding check check_after
silent_check shows_state bytes =
    let p : Progress Checking Checked = after_bytes check_answer bytes (opened (unchecked (at_start shows_state))) in
    silent_finished p (quiet-after shows_state bytes)

-- a whole trace comes with no text
pub silent_whole : (shows_state : Bool) (bytes : List ℕ) (trace : TraceRead) → (check shows_state bytes).end ≡ Whole trace
    → (check shows_state bytes).text ≡ []
silent_whole shows_state bytes trace is =
    subst (λ (e : Checked). Silent (Some e) (check shows_state bytes).text) is (silent_check shows_state bytes)

-- a check that has not ended has printed nothing
pub silent_going : (shows_state : Bool) (bytes : List ℕ) → (check_after shows_state bytes).end ≡ None → (check_after shows_state bytes).printed ≡ []
unfolding check_after
silent_going shows_state bytes none =
    subst (λ (e : Option Checked). Silent e (after_bytes check_answer bytes (opened (unchecked (at_start shows_state)))).printed) none
    (quiet-after shows_state bytes)
