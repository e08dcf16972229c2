use Rattle.trace_blocks.specs.declared.deliveries.Deliveries.{Deliveries}
use Rattle.race_phase.specs.private.Feed.{AllRan, Gathers}
use Rattle.race_phase.proofs.phase.gather.Given as goal

abbrev pub invariant-loop-result : goal.invariant-loop-result
invariant-loop-result g l = (ds : Deliveries) → AllRan l.yielded g.N.Name.state ds → Gathers g.N.Name.state ds l.gathered
