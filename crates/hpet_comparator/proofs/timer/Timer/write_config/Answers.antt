use Rattle.hpet_comparator.proofs.Writes.{IsTimer-config_written}
use Rattle.hpet_comparator.proofs.timer.Timer.write_config.Goals as goal

pub invariant_of-self : goal.invariant_of-self
invariant_of-self c = rw c.config_written-self-inside.ensures (IsTimer-config_written c.args.v c.self.inside.parts c.self.invariant)
