use Rattle.save_state.proofs.Names.{ℕ, List, AreRead, read, timer, no_timer}
use Rattle.save_state.proofs.whole.timers_in.Given as goal

abbrev pub invariant-loop-k : goal.invariant-loop-k
invariant-loop-k l =
    AreRead (λ (j p : ℕ) (bytes : List ℕ). read (timer j) p bytes no_timer) no_timer 18 8 l.initial.fields l.fields l.all l.k
