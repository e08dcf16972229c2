use Rattle.save_state.proofs.Names.{ℕ, List, AreRead, read, line, no_line}
use Rattle.save_state.proofs.whole.lines_in.Given as goal

abbrev pub invariant-loop-k : goal.invariant-loop-k
invariant-loop-k l = AreRead (λ (j p : ℕ) (bytes : List ℕ). read (line j) p bytes no_line) no_line 33 10 l.initial.fields l.fields l.all l.k
