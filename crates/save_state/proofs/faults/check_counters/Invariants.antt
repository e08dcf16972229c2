use Rattle.save_state.proofs.Names.{ArePassed, counter, no_counter}
use Rattle.save_state.proofs.faults.check_counters.Given as goal

abbrev pub invariant-loop-k : goal.invariant-loop-k
invariant-loop-k l = ArePassed counter no_counter 14 l.b l.b.pit.counters 3 l.initial.fields l.fields l.k
