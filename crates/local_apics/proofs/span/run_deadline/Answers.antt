use Rattle.std.proofs.Common.{sym, ap, ◌∙◌}
use Rattle.lapic_timer.specs.declared.parts.ApicParts.{ApicParts}
use Rattle.lapic_timer.specs.Parts.{mode_of}
use Rattle.lapic_timer.specs.Stretch.{nanoseconds}
use Rattle.lapic_timer.specs.Deadline.{is_reached}
use Rattle.local_apics.specs.Nanosecond.{tsc_in}
use Rattle.local_apics.specs.private.Span.{length_of}
use Rattle.local_apics.specs.private.Stretch.{ticks_in}
use Rattle.local_apics.proofs.Spans.{last-reached, last-unreached, last-far}
use Rattle.local_apics.proofs.span.run_deadline.Goals as goal

pub returns-then-reach-clause-state : goal.returns-then-reach-clause-state
returns-then-reach-clause-state c =
    (last-reached c.args.span.now c.args.tsc c.requires.span c.args.timer.now c.requires.mode c.tsc_by-last.result c.tsc_by-last.ensures
    c.reach.new.self c.reach.result c.reach.ensures.state c.reach.ensures.reached c.if-reach.true).0

pub returns-then-reach-clause-ticks : goal.returns-then-reach-clause-ticks
returns-then-reach-clause-ticks c =
    (last-reached c.args.span.now c.args.tsc c.requires.span c.args.timer.now c.requires.mode c.tsc_by-last.result c.tsc_by-last.ensures
    c.reach.new.self c.reach.result c.reach.ensures.state c.reach.ensures.reached c.if-reach.true).1

pub returns-then-is_far-clause-state : goal.returns-then-is_far-clause-state
returns-then-is_far-clause-state c =
    (last-unreached c.args.span.now c.args.tsc c.requires.span c.args.timer.now c.requires.mode c.tsc_by-last.result c.tsc_by-last.ensures
    c.reach.new.self c.reach.result c.reach.ensures.state c.reach.ensures.reached c.if-reach.false).0
    ∙ sym (last-far c.args.span.now c.args.tsc c.requires.span c.args.timer.now c.requires.mode c.tsc_by-last.result c.tsc_by-last.ensures
    c.reach.new.self c.reach.result c.reach.ensures.state c.reach.ensures.reached c.if-reach.false
    (c.is_far.ensures.short c.if-is_far.true) c.deadline.result c.deadline.ensures.value (c.is_far.ensures.far c.if-is_far.true)).0

pub returns-then-is_far-clause-ticks : goal.returns-then-is_far-clause-ticks
returns-then-is_far-clause-ticks c =
    (last-far c.args.span.now c.args.tsc c.requires.span c.args.timer.now c.requires.mode c.tsc_by-last.result c.tsc_by-last.ensures
    c.reach.new.self c.reach.result c.reach.ensures.state c.reach.ensures.reached c.if-reach.false
    (c.is_far.ensures.short c.if-is_far.true) c.deadline.result c.deadline.ensures.value (c.is_far.ensures.far c.if-is_far.true)).1

pub returns-then-is_far-clause-unchanged : goal.returns-then-is_far-clause-unchanged
returns-then-is_far-clause-unchanged c = λ e.
    (last-unreached c.args.span.now c.args.tsc c.requires.span c.args.timer.now c.requires.mode c.tsc_by-last.result c.tsc_by-last.ensures
    c.reach.new.self c.reach.result c.reach.ensures.state c.reach.ensures.reached c.if-reach.false).0

pub reach_first-requires : goal.reach_first-requires
reach_first-requires c =
    let before = last-unreached c.args.span.now c.args.tsc c.requires.span c.args.timer.now c.requires.mode c.tsc_by-last.result c.tsc_by-last.ensures
    c.reach.new.self c.reach.result c.reach.ensures.state c.reach.ensures.reached c.if-reach.false in
    record {
      mode = ap (λ (p : ApicParts). mode_of p.lvt) before.0 ∙ c.requires.mode;
      span = c.requires.span;
      last = ap (λ (p : ApicParts). is_reached p.deadline (tsc_in c.args.span.now.clock c.args.tsc c.args.span.now.to)) before.0 ∙ before.1;
    }

pub returns-clause-state : goal.returns-clause-state
returns-clause-state c =
    c.reach_first.ensures.state
    ∙ ap (nanoseconds (tsc_in c.args.span.now.clock c.args.tsc) c.args.span.now.from (length_of c.args.span.now))
    (last-unreached c.args.span.now c.args.tsc c.requires.span c.args.timer.now c.requires.mode c.tsc_by-last.result c.tsc_by-last.ensures
    c.reach.new.self c.reach.result c.reach.ensures.state c.reach.ensures.reached c.if-reach.false).0

pub returns-clause-ticks : goal.returns-clause-ticks
returns-clause-ticks c =
    ap (λ (p : ApicParts). ticks_in (tsc_in c.args.span.now.clock c.args.tsc) c.args.span.now.from p (length_of c.args.span.now))
    (sym (last-unreached c.args.span.now c.args.tsc c.requires.span c.args.timer.now c.requires.mode c.tsc_by-last.result c.tsc_by-last.ensures
    c.reach.new.self c.reach.result c.reach.ensures.state c.reach.ensures.reached c.if-reach.false).0)
    ∙ c.reach_first.ensures.ticks

pub returns-clause-unchanged : goal.returns-clause-unchanged
returns-clause-unchanged c = λ e.
    c.reach_first.ensures.unchanged e
    ∙ (last-unreached c.args.span.now c.args.tsc c.requires.span c.args.timer.now c.requires.mode c.tsc_by-last.result c.tsc_by-last.ensures
    c.reach.new.self c.reach.result c.reach.ensures.state c.reach.ensures.reached c.if-reach.false).0
