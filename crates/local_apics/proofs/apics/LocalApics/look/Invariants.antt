use Rattle.local_apics.specs.Nanosecond.{tscs_of, tsc_by_time}
use Rattle.local_apics.specs.private.Stretch.{IsLookedBelow}
use Rattle.local_apics.proofs.apics.LocalApics.look.Given as goal

abbrev pub invariant-loop-cpu : goal.invariant-loop-cpu
invariant-loop-cpu l =
    IsLookedBelow l.cpu (λ k. tsc_by_time l.clock (tscs_of l.processors) k l.at) l.fn.self l.self
