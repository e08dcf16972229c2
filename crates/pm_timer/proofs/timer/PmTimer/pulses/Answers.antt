use Rattle.std.proofs.Common.{ap, sym, subst, ◌∙◌}
use Rattle.pm_timer.specs.Parts.{IsPmTimer}
use Rattle.pm_timer.specs.Stretch.{pm_pulsed_times}
use Rattle.pm_timer.proofs.Times.{pm_pulsed_times-is, IsPmTimer-pm_pulsed_times, pm_rises_in-once, IsFirst-rise}
use Rattle.pm_timer.proofs.timer.PmTimer.pulses.Goals as goal

pub returns-clause-state : goal.returns-clause-state
returns-clause-state c =
    c.after_pulses-self-inside.ensures
    ∙ sym (pm_pulsed_times-is c.args.n c.self.inside.parts c.self.invariant)
    ∙ ap (pm_pulsed_times c.args.n) c.self.view_is

pub returns-clause-first : goal.returns-clause-first
returns-clause-first c = rw (← c.self.view_is, c.first_within-first.ensures, c.first_rise.ensures)
    (IsFirst-rise c.args.n c.self.inside.parts c.self.invariant)

pub returns-clause-once : goal.returns-clause-once
returns-clause-once c = pm_rises_in-once c.args.n c.args.self.now (subst IsPmTimer c.self.view_is c.self.invariant)

pub invariant_of-self : goal.invariant_of-self
invariant_of-self c = rw (c.after_pulses-self-inside.ensures, ← pm_pulsed_times-is c.args.n c.self.inside.parts c.self.invariant)
    (IsPmTimer-pm_pulsed_times c.args.n c.self.inside.parts c.self.invariant)
