use Rattle.std.proofs.Common.{◌∙◌, subst, sym}
use Rattle.hpet_comparator.specs.Parts.{IsTimer}
use Rattle.hpet_comparator.proofs.Steps.{matches_in-low, IsTimer-pulsed_times}
use Rattle.hpet_comparator.proofs.timer.Timer.pulses.Goals as goal

pub invariant_of-self : goal.invariant_of-self
invariant_of-self c = subst IsTimer (sym c.pulse.ensures.state) (IsTimer-pulsed_times c.args.from c.args.n c.self.inside.parts c.self.invariant)

pub returns-clause-low_half : goal.returns-clause-low_half
returns-clause-low_half c = rw (← c.self.view_is) (λ narrow. c.pulse.ensures.count ∙ matches_in-low c.args.from c.args.n c.self.inside.parts narrow)
