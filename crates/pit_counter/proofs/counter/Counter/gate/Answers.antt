use Rattle.pit_counter.proofs.Keeps.{IsCounter-gated}
use Rattle.pit_counter.proofs.counter.Counter.gate.Goals as goal

pub invariant_of-self : goal.invariant_of-self
invariant_of-self c = record { valid = rw c.gated-self-inside.ensures (IsCounter-gated c.args.level c.self.inside.parts c.self.invariant.valid); planned = c.plan_of-self-inside.ensures }
