use Rattle.hpet_comparator.proofs.Writes.{IsTimer-comparator_written}
use Rattle.hpet_comparator.proofs.timer.Timer.write_comparator.Goals as goal

pub invariant_of-self : goal.invariant_of-self
invariant_of-self c = rw c.comparator_written-self-inside.ensures
    (IsTimer-comparator_written c.args.width c.args.high c.args.v c.self.inside.parts c.self.invariant)
