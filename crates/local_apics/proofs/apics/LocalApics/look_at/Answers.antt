use Rattle.std.proofs.Common.{◌≡◌, ℕ, true, false, Bool, set, sym, ap, ◌∙◌}
use Rattle.tick_policy.specs.declared.parts.TickParts.{TickParts}
use Rattle.tick_policy.specs.Line.{ticked_times}
use Rattle.tick_policy.specs.Stretch.{ticked_where}
use Rattle.lapic_timer.specs.declared.parts.ApicParts.{ApicParts}
use Rattle.lapic_timer.specs.Parts.{ticks_of}
use Rattle.lapic_timer.specs.Deadline.{is_reached, looked}
use Rattle.local_apics.specs.declared.parts.ApicsParts.{ApicsParts}
use Rattle.local_apics.specs.Places.{timer_at, line_at}
use Rattle.local_apics.specs.Nanosecond.{looks_due}
use Rattle.local_apics.proofs.Product.{both}
use Rattle.local_apics.proofs.Done.{done-nothing, put-both}
use Rattle.local_apics.proofs.Ticks.{looked-quiet, ticked-looked}
use Rattle.local_apics.proofs.Below.{never-due}
use Rattle.local_apics.proofs.apics.LocalApics.look_at.Goals as goal

-- a deadline that isn't reached stays, and so does the line
pub returns-then-not-reach : goal.returns-then-not-reach
returns-then-not-reach c =
    let x : ℕ = c.args.tsc in
    let p : ApicParts = timer_at c.args.cpu c.args.self.now in
    let none : is_reached p.deadline x ≡ false =
    ap (λ (q : ApicParts). is_reached q.deadline x) (sym c.timer-timer.ensures.value) ∙ sym c.reach.ensures.reached ∙ c.if-not-reach.true in
    done-nothing c.args.cpu _ _ c.args.self.now c.timer-timer.ensures.joined
    (sym (looked-quiet x p none))
    (sym (ap (λ (d : Bool). ticked_where d (line_at c.args.cpu c.args.self.now)) (never-due x p none)))

pub returns : goal.returns
returns c =
    let x : ℕ = c.args.tsc in
    let p : ApicParts = timer_at c.args.cpu c.args.self.now in
    let l : TickParts = line_at c.args.cpu c.args.self.now in
    let reached : is_reached p.deadline x ≡ true =
    ap (λ (q : ApicParts). is_reached q.deadline x) (sym c.timer-timer.ensures.value) ∙ sym c.reach.ensures.reached ∙ c.if-not-reach.false in
    let spent : c.reach.new.self ≡ looked x p = c.reach.ensures.state ∙ ap (looked x) c.timer-timer.ensures.value in
    put-both c.args.cpu c.reach.new.self (looked x p) (ticked_times c.ticks-ticks.result l) (ticked_where (looks_due x p) l)
    c.args.self.now c.tick.new.self c.requires.place c.timer-timer.ensures.joined c.tick.ensures.joined
    (c.tick.ensures.state
    ∙ ap (λ (a : ApicsParts). both a.timers (set a.lines c.args.cpu (ticked_times c.ticks-ticks.result (line_at c.args.cpu a)))) c.put.ensures)
    spent
    (ap (λ (n : ℕ). ticked_times n l) (c.ticks-ticks.ensures.value ∙ ap (λ (q : ApicParts). ticks_of q 1) spent) ∙ ticked-looked x p l reached)
