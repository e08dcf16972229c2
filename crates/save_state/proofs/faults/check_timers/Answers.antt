use Rattle.save_state.proofs.Names.{passed-one, passes-same, arith, timers-take, timers_of, timer-size}
use Rattle.save_state.proofs.faults.check_timers.Goals as goal

pub loop-k-preserved : goal.loop-k-preserved
loop-k-preserved c =
    passed-one timer-size c.loop-k.invariant (omega (arith, c.loop-k-test.true, c.loop-k.auto.k-end)) c.in_ok-check_timer.ensures.fault c.in_ok-check_timer.ensures.next

pub returns-clause-next : goal.returns-clause-next
returns-clause-next c = passes-same (omega (arith, timers-take (timers_of c.args.b.now.format), c.loop-k-test.false, c.loop-k.auto.k-end)) c.loop-k.invariant.passes
