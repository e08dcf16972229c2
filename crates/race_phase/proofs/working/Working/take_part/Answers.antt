use Rattle.std.proofs.Common.{sym, subst, ◌++◌, ℕ, List, Result, Ok, Err}
use Rattle.std.specs.Prelude.{OnOk}
use Rattle.trace_blocks.specs.declared.records.Record.{Record}
use Rattle.race_phase.specs.private.Working.{IsWorking}
use Rattle.race_phase.proofs.Steps.{step_room}
use Rattle.race_phase.proofs.working.Working.take_part.Goals as goal
use Rattle.race_phase.proofs.working.Working.take_part.Goals.{then-is_first, else-is_first}

on_ok : {T E : Type 0} (r : Result T E) (P Q : Type 0) → (P → Q) → OnOk r P → OnOk r Q
on_ok (Ok v) P Q f p = f p
on_ok (Err e) P Q f p = tt

pub returns-then-is_none-clause-done : goal.returns-then-is_none-clause-done
returns-then-is_none-clause-done g c = λ n rs x.
    let s = g.N.Name.state in
    let ds = c.args.worker.now.deliveries.now in
    c.in_ok-take.ensures.done n rs (elim c.if-is_first.branch [
      | then-is_first w ↦
          subst (λ z. IsWorking s ds n rs z) (sym w.self-is)
          (step_room s ds n rs c.args.self.now w.make_room.new.self w.make_room.ensures.rest w.make_room.ensures.text x)
      | else-is_first w ↦ subst (λ z. IsWorking s ds n rs z) (sym w.self-is) x
    ])

pub returns-clause-done : goal.returns-clause-done
returns-clause-done g c =
    let s = g.N.Name.state in
    let ds = c.args.worker.now.deliveries.now in
    on_ok c.answer.result _ _
    (λ answered (n : ℕ) (rs : List Record) (x : IsWorking s ds n rs c.args.self.now).
    answered n (rs ++ c.args.part.now.records) (c.in_ok-take.ensures.done n rs (elim c.if-is_first.branch [
      | then-is_first w ↦
          subst (λ z. IsWorking s ds n rs z) (sym w.self-is)
          (step_room s ds n rs c.args.self.now w.make_room.new.self w.make_room.ensures.rest w.make_room.ensures.text x)
      | else-is_first w ↦ subst (λ z. IsWorking s ds n rs z) (sym w.self-is) x
    ])))
    c.answer.ensures.done
