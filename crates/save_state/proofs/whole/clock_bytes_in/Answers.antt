use Rattle.save_state.proofs.Names.{arith, byte, read-none, read-one, row-filled}
use Rattle.save_state.proofs.whole.clock_bytes_in.Goals as goal

pub loop-k-init : goal.loop-k-init
loop-k-init c = read-none _ 0 1 128 c.args.fields.now

pub loop-k-preserved : goal.loop-k-preserved
loop-k-preserved c = read-one c.loop-k.invariant c.loop-k-test.true c.byte.ensures.value c.byte.ensures.next

pub returns-clause-value : goal.returns-clause-value
returns-clause-value c = row-filled byte _ _ _ _ _ _ _ (omega (arith, c.loop-k-test.false)) (omega arith) c.loop-k.invariant.filled
