use Rattle.std.proofs.Common.{◌≡◌, ℕ, Bool, cond, sym, ap, ◌∙◌}
use Rattle.tick_policy.specs.declared.parts.TickParts.{TickParts}
use Rattle.tick_policy.specs.Line.{ticked_times}
use Rattle.tick_policy.proofs.Ticks.{ticked_times-zero}
use Rattle.lapic_timer.specs.declared.parts.ApicParts.{ApicParts}
use Rattle.lapic_timer.specs.Parts.{ticks_of}
use Rattle.lapic_timer.specs.Stretch.{nanoseconds}
use Rattle.local_apics.specs.Places.{timer_at, line_at}
use Rattle.local_apics.specs.Nanosecond.{tsc_in}
use Rattle.local_apics.specs.private.Span.{length_of}
use Rattle.local_apics.specs.private.Stretch.{ticks_in}
use Rattle.local_apics.proofs.Done.{done-nothing}
use Rattle.local_apics.proofs.apics.LocalApics.run_at.Goals as goal

-- without a tick the line stays
pub returns-then-not-run_deadline : goal.returns-then-not-run_deadline
returns-then-not-run_deadline c =
    let p : ApicParts = timer_at c.args.cpu c.args.self.now in
    let l : TickParts = line_at c.args.cpu c.args.self.now in
    let same : c.timer-timer.result ≡ p = c.timer-timer.ensures.value in
    let tsc : ℕ → ℕ = tsc_in c.args.span.now.clock c.args.tsc in
    let none : ticks_in tsc c.args.span.now.from p (length_of c.args.span.now) ≡ 0 =
    ap (λ (q : ApicParts). ticks_in tsc c.args.span.now.from q (length_of c.args.span.now)) (sym same)
    ∙ c.run_deadline.ensures.ticks
    ∙ ap (λ (b : Bool). cond b (ticks_of c.run_deadline.new.timer 1) 0) c.if-not-run_deadline.true in
    done-nothing c.args.cpu _ _ c.args.self.now c.timer-timer.ensures.joined
    (sym same ∙ sym (c.run_deadline.ensures.unchanged c.if-not-run_deadline.true) ∙ c.run_deadline.ensures.state
    ∙ ap (nanoseconds tsc c.args.span.now.from (length_of c.args.span.now)) same)
    (sym (ap (λ (m : ℕ). ticked_times m l) none ∙ ticked_times-zero l))
