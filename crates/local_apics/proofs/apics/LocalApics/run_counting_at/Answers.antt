use Rattle.std.proofs.Common.{◌≡◌, ℕ, ◌<◌, sym, ap, subst, ◌∙◌}
use Rattle.tick_policy.specs.declared.parts.TickParts.{TickParts}
use Rattle.tick_policy.specs.Line.{ticked_times}
use Rattle.tick_policy.proofs.Ticks.{ticked_times-zero}
use Rattle.lapic_timer.specs.declared.parts.ApicParts.{ApicParts}
use Rattle.lapic_timer.specs.Parts.{IsApicTimer}
use Rattle.lapic_timer.specs.Stretch.{fires_in, nanoseconds}
use Rattle.lapic_timer.proofs.Laws.{counting-mode}
use Rattle.local_apics.specs.Places.{timer_at, line_at}
use Rattle.local_apics.proofs.Done.{done-nothing, put-timer}
use Rattle.local_apics.proofs.Ticks.{idle_parts, nanoseconds-idle, ticks_in-idle, ticks_in-quiet}
use Rattle.local_apics.proofs.apics.LocalApics.run_counting_at.Goals as goal

-- an idle timer stays, and so does its line
pub returns-then-is_idle : goal.returns-then-is_idle
returns-then-is_idle c = λ tsc from.
    let p : ApicParts = timer_at c.args.cpu c.args.self.now in
    let l : TickParts = line_at c.args.cpu c.args.self.now in
    let idle : (p.current ≡ 0) × (p.deadline ≡ 0) = idle_parts p (sym c.is_idle.ensures.value ∙ c.if-is_idle.true) in
    done-nothing c.args.cpu _ _ c.args.self.now c.is_idle.ensures.joined
    (sym (nanoseconds-idle tsc from c.args.n p idle.0 idle.1))
    (sym (ap (λ (m : ℕ). ticked_times m l) (ticks_in-idle tsc from c.args.n p idle.0 idle.1) ∙ ticked_times-zero l))

-- without a tick the line stays
pub returns-then-glide : goal.returns-then-glide
returns-then-glide c = λ tsc from.
    let p : ApicParts = timer_at c.args.cpu c.args.self.now in
    let l : TickParts = line_at c.args.cpu c.args.self.now in
    let same : c.timer-timer.result ≡ p = c.timer-timer.ensures.value in
    let valid : IsApicTimer p = subst IsApicTimer (c.parts-parts.ensures.value ∙ same) c.parts-parts.ensures.valid in
    let some : 0 < p.current = subst (λ (q : ApicParts). 0 < q.current) same (c.glide.ensures.quiet c.if-glide.true).0 in
    let none : fires_in p c.args.n ≡ 0 = ap (λ (q : ApicParts). fires_in q c.args.n) (sym same) ∙ (c.glide.ensures.quiet c.if-glide.true).1 in
    put-timer c.args.cpu c.glide.new.self (nanoseconds tsc from c.args.n p) _ c.args.self.now c.put_alike.new.self
    c.requires.place c.timer-timer.ensures.joined c.put_alike.ensures
    (c.glide.ensures.nanoseconds c.if-glide.true tsc from ∙ ap (nanoseconds tsc from c.args.n) same)
    (sym (ap (λ (m : ℕ). ticked_times m l) (ticks_in-quiet tsc from c.args.n p (counting-mode p valid some) none) ∙ ticked_times-zero l))
