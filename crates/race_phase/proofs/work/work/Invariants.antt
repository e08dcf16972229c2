use Rattle.race_phase.proofs.Runs.{HasTaken}
use Rattle.race_phase.proofs.work.work.Given as goal

abbrev pub invariant-loop-done : goal.invariant-loop-done
invariant-loop-done g l = HasTaken g.N.Name.state l.worker.deliveries.now l.fn.pass.number l.done l.taken.items l.working
