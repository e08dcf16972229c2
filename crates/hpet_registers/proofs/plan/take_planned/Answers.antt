use Rattle.std.proofs.Common.{rules, eqb, ◌≡◌, ℕ, ◌/◌, ◌%◌, ◌+◌, ◌^◌, ◌<◌, true, false, sym, arith}
use Rattle.std.proofs.lemmas.Bool.{eq-eqb, ne_eqb}
use Rattle.hpet_registers.proofs.Product.{hpet_pulsed_times-standing}
use Rattle.hpet_registers.proofs.Planned.{matches_of-planned, room-planned, pulsed-planned, plan_of-planned, runs-beyond}
use Rattle.hpet_registers.proofs.plan.take_planned.Goals as goal

pub returns-then-n-quiet-clause-runs : goal.returns-then-n-quiet-clause-runs
returns-then-n-quiet-clause-runs c = runs-beyond c.args.n c.args.quiet.now c.args.parts.now (omega arith) c.requires.planned c.if-n-quiet.true

-- ENABLE, by the code's test
runs : (g : ℕ) → g % 2 ≡ 1 → eqb (g / 2 ^ 0 % 2) 1 ≡ true
runs g odd = eq-eqb (g / 2 ^ 0 % 2) 1 (omega arith)

pub overflow_add-parts : goal.overflow_add-parts
overflow_add-parts c =
    let room : c.args.parts.now.counter + c.args.n < 2 ^ 64 = room-planned c.args.n c.args.parts.now c.requires.valid c.requires.fits c.args.quiet.now
    c.requires.planned c.if-n-quiet.false (runs c.args.parts.now.config c.if-parts-eq1.true) in
    omega (arith, room)

pub returns-then-parts-eq1-clause-state : goal.returns-then-parts-eq1-clause-state
returns-then-parts-eq1-clause-state c = pulsed-planned c.args.n c.args.parts.now c.requires.valid c.requires.fits c.args.quiet.now c.requires.planned
    c.if-n-quiet.false (runs c.args.parts.now.config c.if-parts-eq1.true) (search rules)

pub returns-then-parts-eq1-clause-planned : goal.returns-then-parts-eq1-clause-planned
returns-then-parts-eq1-clause-planned c = plan_of-planned c.args.n c.args.parts.now c.requires.valid c.requires.fits c.args.quiet.now c.requires.planned
    c.if-n-quiet.false (runs c.args.parts.now.config c.if-parts-eq1.true)

pub returns-then-parts-eq1-clause-none : goal.returns-then-parts-eq1-clause-none
returns-then-parts-eq1-clause-none c =
    matches_of-planned c.args.n c.args.parts.now c.requires.valid c.requires.fits c.args.quiet.now c.requires.planned c.if-n-quiet.false

pub returns-else-parts-eq1-clause-state : goal.returns-else-parts-eq1-clause-state
returns-else-parts-eq1-clause-state c =
    sym (hpet_pulsed_times-standing c.args.n c.args.parts.now (ne_eqb (c.args.parts.now.config / 2 ^ 0 % 2) 1 (λ e. absurd (omega (arith, e, c.if-parts-eq1.false)))))

pub returns-else-parts-eq1-clause-none : goal.returns-else-parts-eq1-clause-none
returns-else-parts-eq1-clause-none c =
    matches_of-planned c.args.n c.args.parts.now c.requires.valid c.requires.fits c.args.quiet.now c.requires.planned c.if-n-quiet.false
