use Rattle.edge_hooks.proofs.hooks.Hooks.deliver.Goals as goal
use Rattle.edge_hooks.proofs.hooks.Hooks.deliver.Goals.{then-is_rise, else-is_rise}
use Rattle.edge_hooks.proofs.Delivered.{Delivered-rise, Delivered-fall}

pub loop-edge-preserved : goal.loop-edge-preserved
loop-edge-preserved g c =
    elim c.if-is_rise.branch [
      | then-is_rise w ↦ record {
        edges = c.loop-edge.invariant.edges;
        fits = c.loop-edge.invariant.fits;
        delivered =
            rw (w.deliveries-is, w.push.ensures)
            (Delivered-rise _ _ _ _ _ _ _ c.loop-edge.invariant.delivered c.loop-edge-test.true w.if-is_rise.true
            w.answer.ensures.answer w.answer.ensures.valid);
      }
      | else-is_rise w ↦ record {
        edges = c.loop-edge.invariant.edges;
        fits = c.loop-edge.invariant.fits;
        delivered =
            rw w.deliveries-is
            (Delivered-fall _ _ _ _ _ _ c.loop-edge.invariant.delivered c.loop-edge-test.true w.if-is_rise.false);
      }
    ]
