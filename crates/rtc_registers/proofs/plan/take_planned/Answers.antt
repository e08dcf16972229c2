use Rattle.std.proofs.Common.{◌+◌, ◌≤◌, arith}
use Rattle.rtc_registers.proofs.Planned.{room-planned, pulsed-planned, plan_of-planned, pulsed-standing}
use Rattle.rtc_registers.proofs.plan.take_planned.Goals as goal

pub overflow_cast-r : goal.overflow_cast-r
overflow_cast-r c =
    let room : c.args.r.now.d + c.args.n ≤ 32767 =
    room-planned c.args.n c.args.quiet.now c.args.r.now c.requires.valid c.requires.planned c.requires.within c.if-quiet-ne-FOREVER.true in
    omega (arith, room)

pub overflow_add-r : goal.overflow_add-r
overflow_add-r c =
    let room : c.args.r.now.d + c.args.n ≤ 32767 =
    room-planned c.args.n c.args.quiet.now c.args.r.now c.requires.valid c.requires.planned c.requires.within c.if-quiet-ne-FOREVER.true in
    omega (arith, room)

pub returns-then-quiet-ne-FOREVER-clause-state : goal.returns-then-quiet-ne-FOREVER-clause-state
returns-then-quiet-ne-FOREVER-clause-state c =
    pulsed-planned c.args.n c.args.quiet.now c.args.r.now c.requires.valid c.requires.planned c.requires.within c.if-quiet-ne-FOREVER.true

pub returns-then-quiet-ne-FOREVER-clause-planned : goal.returns-then-quiet-ne-FOREVER-clause-planned
returns-then-quiet-ne-FOREVER-clause-planned c =
    plan_of-planned c.args.n c.args.quiet.now c.args.r.now c.requires.valid c.requires.planned c.requires.within c.if-quiet-ne-FOREVER.true

pub returns-else-quiet-ne-FOREVER-clause-state : goal.returns-else-quiet-ne-FOREVER-clause-state
returns-else-quiet-ne-FOREVER-clause-state c =
    pulsed-standing c.args.n c.args.quiet.now c.args.r.now c.requires.valid c.requires.planned c.if-quiet-ne-FOREVER.false
