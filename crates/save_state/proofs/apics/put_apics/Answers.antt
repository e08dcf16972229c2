use Rattle.save_state.proofs.Names.{◌≡◌, ◌++◌, subst, ap, ◌∙◌, rules, write, written-one, pairs-at, Apic, apic, ApicFits, sym, get_or}
use Rattle.local_apics.specs.Places.{no_timer, no_line}
use Rattle.save_state.proofs.apics.put_apics.Goals as goal

pub loop-k-preserved : goal.loop-k-preserved
loop-k-preserved c =
    let b = c.args.b.now in
    let out = c.loop-k.out.items in
    let now : Apic = (c.apic.result, c.apic_tick.result) in
    let was : Apic = (get_or b.apic c.loop-k.k no_timer, get_or b.apic_ticks c.loop-k.k no_line) in
    let same : now ≡ was = λ i. (c.apic.ensures i, c.apic_tick.ensures i) in
    let at = same ∙ sym (pairs-at no_timer no_line b.apic b.apic_ticks c.loop-k.k (search rules)) in
    written-one c.loop-k.invariant (c.in_ok-put_apic.ensures.bytes c.loop-k.k ∙ ap (λ (a : Apic). out ++ write (apic c.loop-k.k) a) at)
    (subst ApicFits at (record { timer = c.in_ok-put_apic.ensures.timer; line = c.in_ok-put_apic.ensures.line }))
