use Rattle.save_state.proofs.Names.{ℕ, List, false, AreRead, read, message, no_message}
use Rattle.save_state.proofs.messages.messages_in.Given as goal

abbrev pub invariant-loop-k : goal.invariant-loop-k
invariant-loop-k l = record {
  bits : AreRead (λ (j p : ℕ) (bytes : List ℕ). (read (message j) p bytes no_message).0) false 9 8 l.initial.fields l.fields l.bits l.k;
  words : AreRead (λ (j p : ℕ) (bytes : List ℕ). (read (message j) p bytes no_message).1) 0 9 8 l.initial.fields l.fields l.words l.k;
}
