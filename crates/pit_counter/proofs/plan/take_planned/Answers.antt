use Rattle.std.proofs.Common.{◌≡◌, ◌-◌, ◌*◌, ℕ, ap, ◌∙◌, arith, sym}
use Rattle.pit_counter.proofs.Divided.{modulus-le}
use Rattle.pit_counter.proofs.Planned.{step-of_plan, pulsed_times-of_plan, rises_in-of_plan, plan_of-of_plan}
use Rattle.pit_counter.proofs.plan.take_planned.Goals as goal

pub overflow_mul-p : goal.overflow_mul-p
overflow_mul-p c =
    omega (
      arith,
      step-of_plan c.args.p.now c.args.n c.args.plan.now c.requires.planned c.requires.below c.if-n-plan.false,
      c.requires.below,
      modulus-le c.args.p.now.bits,
    )

pub overflow_cast-p-then-plan-ne0 : goal.overflow_cast-p-then-plan-ne0
overflow_cast-p-then-plan-ne0 c =
    omega (
      arith,
      step-of_plan c.args.p.now c.args.n c.args.plan.now c.requires.planned c.requires.below c.if-n-plan.false,
      c.requires.below,
      modulus-le c.args.p.now.bits,
    )

pub overflow_sub-p : goal.overflow_sub-p
overflow_sub-p c = step-of_plan c.args.p.now c.args.n c.args.plan.now c.requires.planned c.requires.below c.if-n-plan.false

pub returns-then-plan-ne0-clause-state : goal.returns-then-plan-ne0-clause-state
returns-then-plan-ne0-clause-state c = pulsed_times-of_plan c.args.p.now c.args.n c.args.plan.now c.requires.planned c.requires.below c.if-n-plan.false

pub returns-then-plan-ne0-clause-planned : goal.returns-then-plan-ne0-clause-planned
returns-then-plan-ne0-clause-planned c =
    plan_of-of_plan c.args.p.now c.args.n c.args.plan.now c.requires.planned c.requires.below c.if-plan-ne0.true c.if-n-plan.false

pub returns-then-plan-ne0-clause-quiet : goal.returns-then-plan-ne0-clause-quiet
returns-then-plan-ne0-clause-quiet c = rises_in-of_plan c.args.p.now c.args.n c.args.plan.now c.requires.planned c.requires.below c.if-n-plan.false

pub returns-else-plan-ne0-clause-state : goal.returns-else-plan-ne0-clause-state
returns-else-plan-ne0-clause-state c =
    let p = c.args.p.now in
    let none : p.ce ≡ p.ce - c.args.plan.now.step * c.args.n =
    omega arith ∙ ap (λ (s : ℕ). p.ce - s * c.args.n) (sym c.if-plan-ne0.false) in
    ap (λ (x : ℕ). record p { ce = x }) none
    ∙ pulsed_times-of_plan p c.args.n c.args.plan.now c.requires.planned c.requires.below c.if-n-plan.false

pub returns-else-plan-ne0-clause-quiet : goal.returns-else-plan-ne0-clause-quiet
returns-else-plan-ne0-clause-quiet c = rises_in-of_plan c.args.p.now c.args.n c.args.plan.now c.requires.planned c.requires.below c.if-n-plan.false
