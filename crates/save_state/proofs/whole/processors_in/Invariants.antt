use Rattle.save_state.proofs.Names.{ℕ, List, AreRead, read, processor, no_processor}
use Rattle.save_state.proofs.whole.processors_in.Given as goal

abbrev pub invariant-loop-k : goal.invariant-loop-k
invariant-loop-k l =
    AreRead (λ (j p : ℕ) (bytes : List ℕ). read (processor j) p bytes no_processor) no_processor 50 64 l.initial.fields l.fields l.all l.k
