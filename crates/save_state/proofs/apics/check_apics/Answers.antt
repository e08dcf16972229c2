use Rattle.save_state.proofs.Names.{passed-one, passes-same, arith, apics-take, apics_of, apic-size}
use Rattle.save_state.proofs.apics.check_apics.Goals as goal

pub loop-k-preserved : goal.loop-k-preserved
loop-k-preserved c =
    passed-one apic-size c.loop-k.invariant (omega (arith, c.loop-k-test.true, c.loop-k.auto.k-end)) c.in_ok-check_apic.ensures.fault c.in_ok-check_apic.ensures.next

pub returns-clause-next : goal.returns-clause-next
returns-clause-next c = passes-same (omega (arith, apics-take (apics_of c.args.b.now.format c.args.b.now.cpus), c.loop-k-test.false, c.loop-k.auto.k-end, c.apics_of-k-end.ensures.value)) c.loop-k.invariant.passes
