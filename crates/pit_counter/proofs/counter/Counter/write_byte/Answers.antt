use Rattle.pit_counter.proofs.Keeps.{IsCounter-byte_written}
use Rattle.pit_counter.proofs.counter.Counter.write_byte.Goals as goal

pub invariant_of-self : goal.invariant_of-self
invariant_of-self c = record { valid = rw c.byte_written-self-inside.ensures (IsCounter-byte_written c.args.byte c.self.inside.parts c.self.invariant.valid); planned = c.plan_of-self-inside.ensures }
