use Rattle.trace_blocks.specs.declared.deliveries.Deliveries.{Deliveries}
use Rattle.race_phase.specs.private.Feed.{HaveRun, Gathers}
use Rattle.race_phase.proofs.phase.Gathered.add_all.Given as goal

abbrev pub invariant-loop-worked : goal.invariant-loop-worked
invariant-loop-worked g l =
    (ds : Deliveries) → HaveRun g.N.Name.state ds l.yielded → Gathers g.N.Name.state ds l.initial.self → Gathers g.N.Name.state ds l.self
