use Rattle.save_state.proofs.Names.{AreRead, byte}
use Rattle.save_state.proofs.whole.clock_bytes_in.Given as goal

abbrev pub invariant-loop-k : goal.invariant-loop-k
invariant-loop-k l = AreRead (λ j. (byte).value) 0 1 128 l.initial.fields l.fields l.all l.k
