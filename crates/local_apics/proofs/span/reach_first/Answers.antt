use Rattle.std.proofs.Common.{◌≡◌, ℕ, ◌+◌, Bool, cond, sym, ap, ◌∙◌}
use Rattle.lapic_timer.specs.declared.parts.ApicParts.{ApicParts}
use Rattle.lapic_timer.specs.Parts.{ticks_of}
use Rattle.lapic_timer.specs.Deadline.{is_reached, looked}
use Rattle.local_apics.specs.Nanosecond.{tsc_in}
use Rattle.local_apics.proofs.Spans.{tsc-by_count, first-decides}
use Rattle.local_apics.proofs.span.reach_first.Goals as goal

-- the TSC at the first nanosecond
first : (c : goal.After-reach) → c.tsc_by.result ≡ tsc_in c.args.span.clock c.args.tsc (c.args.span.from + 1)
first c = c.tsc_by.ensures
    ∙ tsc-by_count c.args.span c.args.tsc c.requires.span c.guest_count_at-count.result (c.args.span.from + 1) c.guest_count_at-count.ensures

pub returns-clause-state : goal.returns-clause-state
returns-clause-state c =
    c.reach.ensures.state ∙ ap (λ (x : ℕ). looked x c.args.timer.now) (first c)
    ∙ sym (first-decides c.args.span c.args.tsc c.requires.span c.args.timer.now c.requires.mode c.requires.last).0

pub returns-clause-ticks : goal.returns-clause-ticks
returns-clause-ticks c =
    let p : ApicParts = c.args.timer.now in
    (first-decides c.args.span c.args.tsc c.requires.span p c.requires.mode c.requires.last).1
    ∙ ap (λ (x : ℕ). cond (is_reached p.deadline x) (ticks_of (looked x p) 1) 0) (sym (first c))
    ∙ ap (λ (b : Bool). cond b (ticks_of (looked c.tsc_by.result p) 1) 0) (sym c.reach.ensures.reached)
    ∙ ap (λ (q : ApicParts). cond c.reach.result (ticks_of q 1) 0) (sym c.reach.ensures.state)
