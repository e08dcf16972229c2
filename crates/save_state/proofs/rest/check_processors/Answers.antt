use Rattle.save_state.proofs.Names.{arith, rules, processors, blocks, passed-one, passed-some, passes-same, processors-take, processor-size}
use Rattle.save_state.proofs.rest.check_processors.Goals as goal

pub loop-k-preserved : goal.loop-k-preserved
loop-k-preserved c =
    passed-one processor-size c.loop-k.invariant (omega (arith, c.loop-k-test.true, c.loop-k.auto.k-end)) c.in_ok-check_processor.ensures.fault c.in_ok-check_processor.ensures.next

pub returns-in_err-check_processor-clause-fault : goal.returns-in_err-check_processor-clause-fault
unfolding processors blocks
returns-in_err-check_processor-clause-fault c =
    let some = passed-some processor-size c.loop-k.invariant (omega (arith, c.loop-k-test.true, c.loop-k.auto.k-end))
    c.in_err-check_processor.ensures.fault in
    search rules

pub returns-clause-next : goal.returns-clause-next
returns-clause-next c =
    passes-same (omega (arith, processors-take c.args.b.now.cpus, c.loop-k-test.false, c.loop-k.auto.k-end)) c.loop-k.invariant.passes
