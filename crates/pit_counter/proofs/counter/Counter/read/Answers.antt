use Rattle.std.proofs.Common.{ap, sym, ◌∙◌}
use Rattle.pit_counter.specs.private.Plan.{plan_of}
use Rattle.pit_counter.proofs.Keeps.{IsCounter-after_read}
use Rattle.pit_counter.proofs.Planned.{plan_of-after_read}
use Rattle.pit_counter.proofs.counter.Counter.read.Goals as goal

pub invariant_of-self : goal.invariant_of-self
invariant_of-self c = record {
  valid = rw c.leave_read.ensures (IsCounter-after_read c.self.inside.parts c.self.invariant.valid);
  planned = c.self.invariant.planned ∙ sym (ap plan_of c.leave_read.ensures ∙ plan_of-after_read c.self.inside.parts);
}
