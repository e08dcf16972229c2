use Rattle.save_state.proofs.Names.{ArePassed, processor, no_processor}
use Rattle.save_state.proofs.rest.check_processors.Given as goal

abbrev pub invariant-loop-k : goal.invariant-loop-k
invariant-loop-k l = ArePassed processor no_processor 50 l.b l.b.processors l.b.cpus l.initial.fields l.fields l.k
