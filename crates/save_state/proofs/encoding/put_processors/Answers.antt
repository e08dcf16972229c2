use Rattle.save_state.proofs.Names.{List, ◌++◌, ap, subst, ◌∙◌, get_or, ProcessorParts, no_processor, write, written-one, processor, ProcessorFits}
use Rattle.save_state.proofs.encoding.put_processors.Goals as goal

pub loop-k-preserved : goal.loop-k-preserved
loop-k-preserved c =
    let k = c.loop-k.k in
    let same = c.processors-processors.ensures.value in
    written-one c.loop-k.invariant
    (c.in_ok-put_processor.ensures.bytes k ∙ ap (λ (ps : List ProcessorParts). c.loop-k.out.items ++ write (processor k) (get_or ps k no_processor)) same)
    (subst (λ (ps : List ProcessorParts). ProcessorFits (get_or ps k no_processor)) same c.in_ok-put_processor.ensures.fits)
