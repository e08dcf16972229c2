use Rattle.std.proofs.Common.{ap, arith}
use Rattle.pit_counter.specs.declared.parts.CounterParts.{CounterParts}
use Rattle.pit_counter.proofs.Divided.{modulus-le}
use Rattle.pit_counter.proofs.Planned.{step-of_plan, pulsed_times-of_plan}
use Rattle.pit_counter.proofs.plan.planned_count.Goals as goal

pub overflow_mul-result : goal.overflow_mul-result
overflow_mul-result c =
    omega (
      arith,
      step-of_plan c.args.p.now c.args.n c.args.plan.now c.requires.planned c.requires.below c.requires.quiet,
      c.requires.below,
      modulus-le c.args.p.now.bits,
    )

pub overflow_cast-result-2 : goal.overflow_cast-result-2
overflow_cast-result-2 c =
    omega (
      arith,
      step-of_plan c.args.p.now c.args.n c.args.plan.now c.requires.planned c.requires.below c.requires.quiet,
      c.requires.below,
      modulus-le c.args.p.now.bits,
    )

pub overflow_sub-result : goal.overflow_sub-result
overflow_sub-result c = step-of_plan c.args.p.now c.args.n c.args.plan.now c.requires.planned c.requires.below c.requires.quiet

pub returns : goal.returns
returns c =
    ap (λ (d : CounterParts). d.ce) (pulsed_times-of_plan c.args.p.now c.args.n c.args.plan.now c.requires.planned c.requires.below c.requires.quiet)
