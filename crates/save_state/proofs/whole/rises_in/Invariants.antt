use Rattle.save_state.proofs.Names.{AreRead, number}
use Rattle.save_state.proofs.whole.rises_in.Given as goal

abbrev pub invariant-loop-k : goal.invariant-loop-k
invariant-loop-k l = AreRead (λ j. (number 8).value) 0 8 6 l.initial.fields l.fields l.all l.k
