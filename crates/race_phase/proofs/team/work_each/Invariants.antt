use Rattle.race_phase.specs.private.Feed.{HaveRun}
use Rattle.race_phase.proofs.team.work_each.Given as goal

abbrev pub invariant-loop-pass : goal.invariant-loop-pass
invariant-loop-pass g l = HaveRun g.N.Name.state l.worker.deliveries.now l.all.items
