use Rattle.save_state.proofs.Names.{ℕ, List, AreRead, read, apic, no_apic}
use Rattle.local_apics.specs.Places.{no_timer, no_line}
use Rattle.save_state.proofs.apics.apics_in.Given as goal

abbrev pub invariant-loop-k : goal.invariant-loop-k
invariant-loop-k l = record {
  timers : AreRead (λ (j p : ℕ) (bytes : List ℕ). (read (apic j) p bytes no_apic).0) no_timer 55 64 l.initial.fields l.fields l.timers l.k;
  lines : AreRead (λ (j p : ℕ) (bytes : List ℕ). (read (apic j) p bytes no_apic).1) no_line 55 64 l.initial.fields l.fields l.lines l.k;
}
