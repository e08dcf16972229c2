use Rattle.save_state.proofs.Names.{arith, number, read-none, read-one, row-filled, rises, rows, plain, counts_few}
use Rattle.save_state.proofs.whole.rises_in.Goals as goal

pub loop-k-init : goal.loop-k-init
loop-k-init c = read-none _ 0 8 6 c.args.fields.now

pub loop-k-preserved : goal.loop-k-preserved
loop-k-preserved c =
    read-one c.loop-k.invariant (omega (arith, c.loop-k-test.true, c.loop-k.auto.k-end, counts_few c.args.format)) c.eight.ensures.value c.eight.ensures.next

pub returns-clause-value : goal.returns-clause-value
unfolding rises rows plain
returns-clause-value c =
    row-filled (number 8) _ _ _ _ _ _ _ (omega (arith, c.loop-k-test.false, c.loop-k.auto.k-end)) (counts_few c.args.format) c.loop-k.invariant.filled
