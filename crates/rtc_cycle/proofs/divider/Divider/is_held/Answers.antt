use Rattle.rtc_cycle.proofs.Times.{updates_in-none}
use Rattle.rtc_cycle.proofs.Recurs.{held-pulsed_times, ticks_in-held}
use Rattle.rtc_cycle.proofs.Quiet.{other}
use Rattle.rtc_cycle.proofs.divider.Divider.is_held.Goals as goal

pub returns-clause-state : goal.returns-clause-state
returns-clause-state c = rw (← c.self.view_is) (λ held n. held-pulsed_times n c.self.inside.parts (other _ _ held))

pub returns-clause-ticks : goal.returns-clause-ticks
returns-clause-ticks c = rw (← c.self.view_is) (λ held n. ticks_in-held n c.self.inside.parts (other _ _ held))

pub returns-clause-updates : goal.returns-clause-updates
returns-clause-updates c = rw (← c.self.view_is) (λ held n.
    updates_in-none n c.self.inside.parts c.self.invariant (λ runs _. other _ _ held runs))
