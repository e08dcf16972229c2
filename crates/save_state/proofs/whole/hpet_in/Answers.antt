use Rattle.save_state.proofs.Names.{◌≡◌, ◌+◌, ◌∙◌, arith, get_or, number_at, read, blank, replicate, false, registers, timers, timers_of, plain, blocks}
use Rattle.save_state.proofs.whole.hpet_in.Goals as goal

pub returns-clause-value : goal.returns-clause-value
unfolding registers timers plain blocks
returns-clause-value c =
    let at = c.args.fields.now in
    let p1 : c.byte.new.self.place ≡ at.place + 1 = c.byte.ensures.next.place in
    let p2 : c.byte-2.new.self.place ≡ at.place + 1 + 1 = omega (arith, p1, c.byte-2.ensures.next.place) in
    let p3 : c.eight.new.self.place ≡ at.place + 1 + 1 + 8 = omega (arith, p2, c.eight.ensures.next.place) in
    let b1 = c.byte.ensures.next.bytes in
    let b2 = c.byte-2.ensures.next.bytes ∙ b1 in
    let b3 = c.eight.ensures.next.bytes ∙ b2 in
    let status = c.byte-2.ensures.value ∙ (λ i. get_or (b1 i) (p1 i) 0) in
    let counter = c.eight.ensures.value ∙ (λ i. number_at 8 (p2 i) (b2 i)) in
    let timer = c.timers_in.ensures.value ∙ (λ i. (read (timers (timers_of c.args.format)) (p3 i) (b3 i) blank).hpet.timer) in
    λ i. record {
      config = c.byte.ensures.value i;
      status = status i;
      counter = counter i;
      timer = timer i;
      timers = c.timers_of.ensures i;
      messages = c.has_messages.ensures i;
      message_bit = replicate 8 false;
      message_word = replicate 8 0;
    }
