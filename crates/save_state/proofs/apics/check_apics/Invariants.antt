use Rattle.save_state.proofs.Names.{ArePassed, apic, no_apic, apic_pairs, apics_of}
use Rattle.save_state.proofs.apics.check_apics.Given as goal

abbrev pub invariant-loop-k : goal.invariant-loop-k
invariant-loop-k l = ArePassed apic no_apic 55 l.b (apic_pairs l.b) (apics_of l.b.format l.b.cpus) l.initial.fields l.fields l.k
