use Rattle.hpet_registers.proofs.Conditions.{IsHpet-hpet_pulsed_times}
use Rattle.hpet_registers.proofs.hpet.Hpet.pass.Goals as goal

pub invariant_of-self : goal.invariant_of-self
invariant_of-self c = record {
  valid = rw c.pass.ensures.state (IsHpet-hpet_pulsed_times c.args.n c.self.inside.parts c.self.invariant.valid);
  planned = c.pass.ensures.planned;
}
