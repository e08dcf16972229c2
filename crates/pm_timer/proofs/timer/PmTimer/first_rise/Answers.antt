use Rattle.pm_timer.proofs.Times.{IsFirst-rise}
use Rattle.pm_timer.proofs.timer.PmTimer.first_rise.Goals as goal

pub returns-clause-first : goal.returns-clause-first
returns-clause-first c = rw (← c.self.view_is, c.first_rise.ensures) (λ n. IsFirst-rise n c.self.inside.parts c.self.invariant)
