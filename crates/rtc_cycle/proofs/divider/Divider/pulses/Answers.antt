use Rattle.std.proofs.Common.{sym, ap, subst, ◌∙◌}
use Rattle.rtc_cycle.specs.declared.parts.DividerParts.{DividerParts}
use Rattle.rtc_cycle.specs.Divider.{pulsed_times, ticks_in, updates_in}
use Rattle.rtc_cycle.specs.Parts.{IsDivider}
use Rattle.rtc_cycle.proofs.Times.{ticks_in-second, updates_in-second}
use Rattle.rtc_cycle.proofs.Recurs.{pulsed_times-is, IsDivider-stretched}
use Rattle.rtc_cycle.proofs.divider.Divider.pulses.Goals as goal

pub returns-clause-state : goal.returns-clause-state
returns-clause-state c =
    c.after_pulses-self-inside.ensures ∙ sym (pulsed_times-is c.args.n c.self.inside.parts c.self.invariant) ∙ ap (pulsed_times c.args.n) c.self.view_is

pub invariant_of-self : goal.invariant_of-self
invariant_of-self c = rw c.after_pulses-self-inside.ensures (IsDivider-stretched c.args.n c.self.inside.parts c.self.invariant)

pub returns-clause-frequency : goal.returns-clause-frequency
returns-clause-frequency c = λ second runs.
    let valid : IsDivider c.args.self.now = subst IsDivider c.self.view_is c.self.invariant in
    c.ticks-ticks.ensures.count
    ∙ ap (λ (p : DividerParts). ticks_in p c.args.n) c.self.view_is
    ∙ ap (ticks_in c.args.self.now) second
    ∙ ticks_in-second c.args.self.now runs valid.below valid.rs

pub returns-clause-second : goal.returns-clause-second
returns-clause-second c = λ second runs.
    let valid : IsDivider c.args.self.now = subst IsDivider c.self.view_is c.self.invariant in
    c.updates-updates.ensures.count
    ∙ ap (λ (p : DividerParts). updates_in p c.args.n) c.self.view_is
    ∙ ap (updates_in c.args.self.now) second
    ∙ updates_in-second c.args.self.now valid runs
