use Rattle.std.proofs.Common.{sym, subst, arith}
use Rattle.pit_counter.specs.Parts.{IsCounter}
use Rattle.pit_counter.specs.declared.parts.CounterParts.{CounterParts}
use Rattle.pit_counter.proofs.Times.{rises_in-le}
use Rattle.pit_counter.proofs.Keeps.{IsCounter-ce}
use Rattle.pit_counter.proofs.Joins.{IsCounter-pulsed_times}
use Rattle.pit_counter.proofs.counter.Counter.pulses.Goals as goal

pub take_planned-requires-clause-below : goal.take_planned-requires-clause-below
take_planned-requires-clause-below c = IsCounter-ce c.self.inside.parts c.self.invariant.valid

pub invariant_of-self : goal.invariant_of-self
invariant_of-self c = record {
  valid = subst (λ (p : CounterParts). IsCounter p) (sym c.if-take_planned.ensures.state)
      (IsCounter-pulsed_times c.self.inside.parts c.args.n c.self.invariant.valid);
  planned = c.if-take_planned.ensures.planned;
}

pub take_and_plan-requires-clause-valid : goal.take_and_plan-requires-clause-valid
take_and_plan-requires-clause-valid c = subst (λ (p : CounterParts). IsCounter p) (sym c.if-take_planned.ensures.kept) c.self.invariant.valid

pub invariant_of-self-2 : goal.invariant_of-self-2
invariant_of-self-2 c = record {
  valid = subst (λ (p : CounterParts). IsCounter p) (sym c.take_and_plan.ensures.taken.state)
      (IsCounter-pulsed_times c.take_planned.new.p c.args.n
      (subst (λ (p : CounterParts). IsCounter p) (sym c.if-take_planned.ensures.kept) c.self.invariant.valid));
  planned = c.take_and_plan.ensures.planned;
}

pub returns-clause-few : goal.returns-clause-few
returns-clause-few c = omega (arith, c.take_and_plan.ensures.taken.count, rises_in-le c.take_planned.new.p c.args.n)
