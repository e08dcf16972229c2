use Rattle.save_state.proofs.Names.{get_or, ap, rules, fault_in, pairs-at, Apic, apic}
use Rattle.{local_apics.specs.Places.no_timer, local_apics.specs.Places.no_line, save_state.proofs.BlockRows.apic-rows}
use Rattle.save_state.proofs.apics.check_apic.Goals as goal

pub returns-clause-fault : goal.returns-clause-fault
returns-clause-fault c =
    let b = c.args.b.now in
    let k = c.args.k in
    let at = c.args.fields.now in
    let pair = pairs-at no_timer no_line b.apic b.apic_ticks k (search rules) in
    let is = apic-rows k b (get_or b.apic k no_timer, get_or b.apic_ticks k no_line) at.place at.bytes.now in
    let here = ap (λ (a : Apic). fault_in (apic k) b a at.place at.bytes.now) pair in
    let most = c.requires.most in
    cc
