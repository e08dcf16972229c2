use Rattle.save_state.proofs.Names.{no_processor, AreWritten, processor, ProcessorFits}
use Rattle.save_state.proofs.encoding.put_processors.Given as goal

abbrev pub invariant-loop-k : goal.invariant-loop-k
invariant-loop-k l = AreWritten processor no_processor ProcessorFits l.b.processors l.initial.out.items l.out.items l.k
