use Rattle.std.proofs.Common.{rules, ◌≡◌, ap, sym, subst, List, false, true}
use Rattle.trace_blocks.specs.declared.records.Record.{Record}
use Rattle.race_phase.specs.private.Workers.{HasHalted, HasPrinted}
use Rattle.race_phase.proofs.Steps.{step_printed, step_same, step_stopped}
use Rattle.race_phase.proofs.working.Working.answer.Goals as goal
use Rattle.race_phase.proofs.working.Working.answer.Goals.{
  then-not-self+in_ok-answered+in-Ok,
  then-not-self+in_ok-answered+in-Err,
  else-not-self,
}

pub returns-clause-done : goal.returns-clause-done
returns-clause-done g c = λ n rs x.
    let s = g.N.Name.state in
    let ds = c.args.worker.now.deliveries.now in
    let old = c.args.self.now in
    elim c.if-not-self.branch [
      | then-not-self+in_ok-answered+in-Ok w ↦
          let told = rw w.in-Ok.is at w.in_ok-answered.ensures.ok in
          let printed = subst (λ (ws : List Record). HasPrinted s ds ws old.text.items w.print_all.new.out.items old.pass w.print_all.new.pass) w.deref.ensures.value told in
          let going : old.halted ≡ false = search rules in
          step_printed s ds n rs old _ x going (ap (λ z. z.halted) w.self-is) c.clear.ensures.items
          (subst (λ z. HasPrinted s ds old.waiting.items old.text.items z.text.items old.pass z.pass) (sym w.self-is) printed)
      | then-not-self+in_ok-answered+in-Err w ↦
          let told = rw w.in-Err.is at w.in_ok-answered.ensures.err in
          let halted = subst (λ (ws : List Record). HasHalted s ws old.pass w.print_all.new.pass) w.deref.ensures.value told in
          let going : old.halted ≡ false = search rules in
          step_stopped s ds n rs old _ x going (ap (λ z. z.halted) w.self-is)
          (subst (λ z. HasHalted s old.waiting.items old.pass z.pass) (sym w.self-is) halted)
      | else-not-self w ↦
          let stopped : old.halted ≡ true = search rules in
          step_same s ds n rs old _ x stopped (ap (λ z. z.halted) w.self-is) (ap (λ z. z.pass) w.self-is)
    ]
