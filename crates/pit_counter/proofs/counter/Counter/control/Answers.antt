use Rattle.pit_counter.proofs.Keeps.{IsCounter-programmed}
use Rattle.pit_counter.proofs.counter.Counter.control.Goals as goal

pub invariant_of-self : goal.invariant_of-self
invariant_of-self c = record { valid = rw c.programmed-self-inside.ensures (IsCounter-programmed c.args.bits c.self.inside.parts.gate c.requires.least c.requires.greatest); planned = c.plan_of-self-inside.ensures }
