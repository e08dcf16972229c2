use Rattle.std.proofs.Common.{ap, sym, ◌∙◌}
use Rattle.pit_counter.specs.private.Plan.{plan_of}
use Rattle.pit_counter.proofs.Keeps.{IsCounter-with_status_latched}
use Rattle.pit_counter.proofs.Planned.{plan_of-status_latched}
use Rattle.pit_counter.proofs.counter.Counter.latch_status.Goals as goal

pub invariant_of-self : goal.invariant_of-self
invariant_of-self c = record {
  valid = rw c.with_status_latched-self-inside.ensures (IsCounter-with_status_latched c.self.inside.parts c.self.invariant.valid);
  planned = c.self.invariant.planned ∙ sym (ap plan_of c.with_status_latched-self-inside.ensures ∙ plan_of-status_latched c.self.inside.parts);
}
