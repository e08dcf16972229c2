use Rattle.save_state.proofs.Names.{◌++◌, false, sym, ap, ◌∙◌, rules, write, written-one, pairs-at, Message, message}
use Rattle.save_state.proofs.messages.put_messages.Goals as goal

pub loop-k-preserved : goal.loop-k-preserved
loop-k-preserved c =
    let h = c.args.d.now.hpet in
    let out = c.loop-k.out.items in
    let at = sym (pairs-at false 0 h.message_bit h.message_word c.loop-k.k (search rules)) in
    written-one c.loop-k.invariant (c.in_ok-put_message.ensures c.loop-k.k ∙ ap (λ (m : Message). out ++ write (message c.loop-k.k) m) at) tt
