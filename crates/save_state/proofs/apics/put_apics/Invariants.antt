use Rattle.save_state.proofs.Names.{AreWritten, apic, no_apic, apic_pairs, ApicFits}
use Rattle.save_state.proofs.apics.put_apics.Given as goal

abbrev pub invariant-loop-k : goal.invariant-loop-k
invariant-loop-k l = AreWritten apic no_apic ApicFits (apic_pairs l.b) l.initial.out.items l.out.items l.k
