use Rattle.save_state.proofs.Names.{written-one}
use Rattle.save_state.proofs.encoding.put_timers.Goals as goal

pub loop-k-preserved : goal.loop-k-preserved
loop-k-preserved c = written-one c.loop-k.invariant (c.in_ok-put_timer.ensures.bytes c.loop-k.k) c.in_ok-put_timer.ensures.fits
