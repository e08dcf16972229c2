use Rattle.save_state.proofs.Names.{arith, no_processor, read-none, read-one, read-filled, processor, processors, blocks, processor-size}
use Rattle.save_state.proofs.whole.processors_in.Goals as goal

pub loop-k-init : goal.loop-k-init
loop-k-init c = read-none _ no_processor 50 64 c.args.fields.now

pub loop-k-preserved : goal.loop-k-preserved
loop-k-preserved c =
    read-one c.loop-k.invariant (omega (arith, c.loop-k-test.true, c.loop-k.auto.k-end, c.requires.few)) (c.processor_in.ensures.value c.loop-k.k)
    c.processor_in.ensures.next

pub returns-clause-value : goal.returns-clause-value
unfolding processors blocks
returns-clause-value c =
    read-filled processor no_processor 50 processor-size _ _ _ _ _ _ (omega (arith, c.loop-k-test.false, c.loop-k.auto.k-end)) c.requires.few
    c.loop-k.invariant.filled
