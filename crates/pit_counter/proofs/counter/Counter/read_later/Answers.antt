use Rattle.std.proofs.Common.{ap, sym, ◌∙◌}
use Rattle.pit_counter.specs.private.Plan.{plan_of}
use Rattle.pit_counter.proofs.Keeps.{IsCounter-after_read}
use Rattle.pit_counter.proofs.Planned.{plan_of-after_read}
use Rattle.pit_counter.proofs.counter.Counter.read_later.Goals as goal

pub invariant_of-self : goal.invariant_of-self
invariant_of-self c = record {
  valid = rw c.read_later.ensures.state (IsCounter-after_read c.self.inside.parts c.self.invariant.valid);
  planned = c.self.invariant.planned ∙ sym (ap plan_of c.read_later.ensures.state ∙ plan_of-after_read c.self.inside.parts);
}
