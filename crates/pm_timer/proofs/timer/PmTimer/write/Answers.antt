use Rattle.pm_timer.proofs.Writes.{IsPmTimer-pm_written}
use Rattle.pm_timer.proofs.timer.PmTimer.write.Goals as goal

pub invariant_of-self : goal.invariant_of-self
invariant_of-self c = rw c.written-self-inside.ensures
    (IsPmTimer-pm_written c.args.offset c.args.width c.args.value c.self.inside.parts c.self.invariant)
