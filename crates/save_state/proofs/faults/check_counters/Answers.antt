use Rattle.save_state.proofs.Names.{passed-one, passes-same, arith, sizes, counter-size}
use Rattle.save_state.proofs.faults.check_counters.Goals as goal

pub loop-k-preserved : goal.loop-k-preserved
loop-k-preserved c =
    passed-one counter-size c.loop-k.invariant c.loop-k-test.true c.in_ok-check_counter.ensures.fault c.in_ok-check_counter.ensures.next

pub returns-clause-next : goal.returns-clause-next
returns-clause-next c = passes-same (omega (arith, sizes.1, c.loop-k-test.false)) c.loop-k.invariant.passes
