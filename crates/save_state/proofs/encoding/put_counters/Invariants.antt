use Rattle.save_state.proofs.Names.{AreWritten, counter, no_counter, CounterFits}
use Rattle.save_state.proofs.encoding.put_counters.Given as goal

abbrev pub invariant-loop-k : goal.invariant-loop-k
invariant-loop-k l = AreWritten counter no_counter CounterFits l.d.pit.counters l.initial.out.items l.out.items l.k
