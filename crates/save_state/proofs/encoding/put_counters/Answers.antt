use Rattle.save_state.proofs.Names.{◌++◌, ap, subst, ◌∙◌, CounterParts, write, written-one, counter, CounterFits}
use Rattle.save_state.proofs.encoding.put_counters.Goals as goal

pub loop-k-preserved : goal.loop-k-preserved
loop-k-preserved c =
    let out = c.loop-k.out.items in
    written-one c.loop-k.invariant
    (c.in_ok-put_counter.ensures.bytes c.loop-k.k ∙ ap (λ (x : CounterParts). out ++ write (counter c.loop-k.k) x) c.counter.ensures)
    (subst CounterFits c.counter.ensures c.in_ok-put_counter.ensures.fits)
