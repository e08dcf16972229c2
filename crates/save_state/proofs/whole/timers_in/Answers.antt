use Rattle.save_state.proofs.Names.{arith, no_timer, read-none, read-one, read-filled, timer, timers, blocks, timers_few, timer-size}
use Rattle.save_state.proofs.whole.timers_in.Goals as goal

pub loop-k-init : goal.loop-k-init
loop-k-init c = read-none _ no_timer 18 8 c.args.fields.now

pub loop-k-preserved : goal.loop-k-preserved
loop-k-preserved c =
    read-one c.loop-k.invariant (omega (arith, c.loop-k-test.true, c.loop-k.auto.k-end, timers_few c.args.format)) (c.timer_in.ensures.value c.loop-k.k)
    c.timer_in.ensures.next

pub returns-clause-value : goal.returns-clause-value
unfolding timers blocks
returns-clause-value c =
    read-filled timer no_timer 18 timer-size _ _ _ _ _ _ (omega (arith, c.loop-k-test.false, c.loop-k.auto.k-end)) (timers_few c.args.format)
    c.loop-k.invariant.filled
