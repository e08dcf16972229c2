use Rattle.save_state.proofs.Names.{◌≡◌, ◌+◌, [], ◌∷◌, ◌∙◌, arith, read, size_of, counter, no_counter, counters, blocks, counter-size}
use Rattle.save_state.proofs.whole.counters_in.Goals as goal

pub returns-clause-value : goal.returns-clause-value
unfolding counters blocks
returns-clause-value c =
    let at = c.args.fields.now in
    let one = c.counter_in.ensures.next in
    let two = c.counter_in-2.ensures.next in
    let p1 : c.counter_in.new.fields.place ≡ at.place + size_of (counter 0) = omega (arith, one.place, counter-size 0) in
    let p2 : c.counter_in-2.new.fields.place ≡ at.place + size_of (counter 0) + size_of (counter 1) = omega (arith, two.place, p1, counter-size 1) in
    let second = c.counter_in-2.ensures.value 1 ∙ (λ i. read (counter 1) (p1 i) (one.bytes i) no_counter) in
    let third = c.counter_in-3.ensures.value 2 ∙ (λ i. read (counter 2) (p2 i) ((two.bytes ∙ one.bytes) i) no_counter) in
    λ i. c.counter_in.ensures.value 0 i ∷ second i ∷ third i ∷ []
