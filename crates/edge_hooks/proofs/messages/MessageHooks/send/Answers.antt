use Rattle.edge_hooks.proofs.messages.MessageHooks.send.Goals as goal
use Rattle.edge_hooks.proofs.Delivered.{SentAll-burst}

pub loop-burst-preserved : goal.loop-burst-preserved
loop-burst-preserved g c = record {
  bursts = c.loop-burst.invariant.bursts;
  fits = c.loop-burst.invariant.fits;
  sent =
      rw c.push.ensures
      (SentAll-burst _ _ _ _ _ _ _ c.loop-burst.invariant.sent c.loop-burst-test.true c.answer.ensures.answer c.answer.ensures.valid);
}
