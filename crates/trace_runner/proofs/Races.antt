-- What a race leaves, by how its check ends.
use Rattle.std.proofs.Common.{◌≡◌, ◌≢◌, ℕ, ◌-◌, Bool, List, [], take, None, inl, inr, sym, subst, ◌∙◌}
use Rattle.board_io.specs.Ends.{Grows, Input, Output, Gave}
use Rattle.board_io.proofs.Bytes.{Grows-trans}
use Rattle.board_io.specs.Faults.{Rose}
use Rattle.trace_loop.specs.Text.{memory_fault_text}
use Rattle.trace_loop.specs.Progress.{opened, after_bytes}
use Rattle.trace_loop.specs.Outcome.{Run, Outcome, Leaves, run_over}
use Rattle.trace_loop.specs.declared.ended.Ended.{Ended}
use Rattle.trace_loop.specs.declared.ended.Ended.TheVariants.{By, SinkFault}
use Rattle.trace_runner.specs.Checking.{Checking}
use Rattle.trace_runner.specs.Check.{
  check_answer,
  check_closing,
  check_after,
  check,
  unchecked,
}
use Rattle.trace_runner.specs.FileText.{file_text}
use Rattle.trace_runner.specs.Race.{CheckedLeaves, RaceLeaves, AloneLeaves, SaidByThreads, check_run, thread_fault_text}
use Rattle.trace_replay.specs.Replay.{replay, at_start}
use Rattle.trace_replay.specs.Said.{Said, SaidAtMost}
use Rattle.trace_replay.specs.Status.{verdict_status}
use Rattle.trace_runner.specs.Trace.{TraceRead}
use Rattle.trace_runner.specs.Checked.{Checked}
use Rattle.trace_runner.specs.Checked.Checked.{Whole, Stopped}
use Rattle.trace_replay.specs.declared.status.Status.{Status}
use Rattle.trace_replay.specs.declared.status.Status.TheVariants.{Ok, NoMemory, ThreadFault}
use Rattle.trace_replay.specs.declared.status.Verdict.{Verdict}
use Rattle.trace_runner.proofs.CheckQuiet.{silent_whole}
use Rattle.trace_runner.proofs.Together.{replay_whole}

-- the check of an input ended so, over a source and a sink that were such before it and after it
pub record HasEnded (shows_state : Bool) (input : List ℕ) (start end : Input) (old mid : Output) (e : Ended Checked) : Type 0 where
  pub outcome : Outcome (check_run shows_state input start end) e old.contents mid.contents
  pub well : e ≢ SinkFault → mid.faults ≡ old.faults

-- a check that began before the first line
module _ (shows_state : Bool) {s : Checking} {start end : Input} {old mid : Output} {e : Ended Checked} (is : s ≡ unchecked (at_start shows_state))
    (left : Leaves check_answer check_closing s start end old mid e) where
  pub has_ended : {x : Ended Checked} → e ≡ x → (input : List ℕ) → Gave start end input → HasEnded shows_state input start end old mid x
  unfolding check check_after
  has_ended ends input all = record {
    outcome = subst (λ (y : Ended Checked). Outcome (check_run shows_state input start end) y old.contents mid.contents) ends
        (subst (λ (t : Checking). Outcome (run_over check_answer check_closing t input start end) e old.contents mid.contents) is
        (left.outcome input all));
    well = λ no. left.ends.sink.well (λ same. no (sym ends ∙ same));
  }

  pub has_gone_on : (input : List ℕ) → Gave start end input → (check_after shows_state (take (end.before - start.given) input)).end ≡ None
  unfolding check_after
  has_gone_on input all =
      subst (λ (t : Checking). (after_bytes check_answer (take (end.before - start.given) input) (opened t)).end ≡ None) is (left.stopped input all)

-- the trace was read to its end, with no text
module _ {shows_state : Bool} {input : List ℕ} {start end : Input} {old mid : Output} {t : TraceRead}
    (o : HasEnded shows_state input start end old mid (By (Whole t))) (result : Status) (new : Output) where
  abbrev w : Run Checking Checked
  w = check_run shows_state input start end

  abbrev shown : Type 0
  shown = Rose old.faults new.faults

  -- so a text that is put next is put after what was there
  said_after : (status : Status) (text : List ℕ) → Said status result mid.contents new.contents text (Rose mid.faults new.faults)
      → Said status result old.contents new.contents text shown
  said_after status text said =
      let front : Grows old.contents mid.contents [] = subst (λ (l : List ℕ). Grows old.contents mid.contents l)
      (o.outcome.1.1.0 ∙ silent_whole shows_state input t (sym o.outcome.0)) o.outcome.1.2 in
      elim said [
        | inl all ↦ inl (all.0, Grows-trans old.contents mid.contents new.contents [] text front all.1)
        | inr cut ↦ inr (
          cut.0,
          subst (λ (n : ℕ). Rose n new.faults) (o.well (λ no. cc)) cut.1,
          (cut.2.0, cut.2.1, Grows-trans old.contents mid.contents new.contents [] cut.2.0 front cut.2.2),
        )
      ]

  at_most : (text : List ℕ) → SaidAtMost Ok result mid.contents new.contents text (Rose mid.faults new.faults)
      → SaidAtMost Ok result old.contents new.contents text shown
  at_most text most = elim most [
    | inl all ↦ inl (said_after Ok text all)
    | inr memory ↦ inr (said_after NoMemory memory_fault_text memory)
  ]

  pub whole_left : CheckedLeaves (Whole t) [] result mid.contents new.contents (Rose mid.faults new.faults)
      → RaceLeaves w result old.contents new.contents shown
  whole_left left =
      let there : CheckedLeaves (Whole t) w.whole.text result old.contents new.contents shown = elim left [
        | inl done ↦ inl (done.0, done.1, said_after Ok done.0 done.2)
        | inr none ↦ inr (elim none [
          | inl memory ↦ inl (said_after NoMemory memory_fault_text memory)
          | inr broken ↦ inr (said_after ThreadFault thread_fault_text broken)
        ])
      ] in
      inl (o.outcome.1.1.1, subst (λ (x : Checked). CheckedLeaves x w.whole.text result old.contents new.contents shown) o.outcome.0 there)

  -- .. and prints what its replay prints, where the text of file order was put
  pub alone_left : (u : TraceRead) → (check shows_state input).end ≡ Whole u → u.opening.cpus ≡ 1
      → (t.opening.cpus ≡ 1 → SaidByThreads Ok result mid.contents new.contents (file_text t) (Rose mid.faults new.faults))
      → AloneLeaves w (replay shows_state input) result old.contents new.contents shown
  alone_left u is one said =
      let trace : t ≡ u = whole_same (o.outcome.0 ∙ is) in
      let prints = replay_whole shows_state input t (sym o.outcome.0) in
      let there : SaidByThreads Ok result old.contents new.contents (file_text t) shown =
      elim (said (subst (λ (x : TraceRead). x.opening.cpus ≡ 1) (sym trace) one)) [
        | inl most ↦ inl (at_most (file_text t) most)
        | inr broken ↦ inr (said_after ThreadFault thread_fault_text broken)
      ] in
      inl (
        o.outcome.1.1.1,
        subst (λ (z : Verdict × List ℕ). SaidByThreads (verdict_status z.0) result old.contents new.contents z.1 shown)
            (λ k. (sym prints.0 k, sym prints.1 k)) there,
      )
    where
      whole_same : (let a : Checked = Whole t in let b : Checked = Whole u in a ≡ b) → t ≡ u
      whole_same e = cc

-- a line was refused
module _ {shows_state : Bool} {input : List ℕ} {start end : Input} {old mid : Output} {v : Verdict}
    (o : HasEnded shows_state input start end old mid (By (Stopped v))) where
  pub stopped_left : (result : Status) → result ≡ verdict_status v
      → RaceLeaves (check_run shows_state input start end) result old.contents mid.contents (Rose old.faults mid.faults)
  stopped_left result is =
      inl (
        o.outcome.1.1.1,
        subst (λ (x : Checked). CheckedLeaves x (check shows_state input).text result old.contents mid.contents (Rose old.faults mid.faults))
            o.outcome.0 (is, subst (λ (text : List ℕ). Grows old.contents mid.contents text) o.outcome.1.1.0 o.outcome.1.2),
      )

  -- so the check came to no whole trace
  pub never_whole : (u : TraceRead) → (check shows_state input).end ≡ Whole u → ⊥
  never_whole u is = no_whole (o.outcome.0 ∙ is)
    where
      no_whole : (let a : Checked = Stopped v in let b : Checked = Whole u in a ≡ b) → ⊥
      no_whole e = cc
