use Rattle.std.proofs.Common.{◌≤◌, sym, ◌∙◌, arith}
use Rattle.rtc_registers.proofs.Planned.{updates_in-planned, ticks_in-planned}
use Rattle.rtc_registers.proofs.plan.is_quiet.Goals as goal

pub returns-then-not-is_flagged-clause-ticks : goal.returns-then-not-is_flagged-clause-ticks
returns-then-not-is_flagged-clause-ticks c = λ _.
    let within : c.args.n ≤ c.args.quiet = omega arith in
    ticks_in-planned c.args.n c.args.quiet c.args.r.now c.requires.valid c.requires.planned within
    (sym c.is_flagged.ensures ∙ c.if-not-is_flagged.true)

pub returns-then-not-is_flagged-clause-updates : goal.returns-then-not-is_flagged-clause-updates
returns-then-not-is_flagged-clause-updates c = λ _.
    let within : c.args.n ≤ c.args.quiet = omega arith in
    updates_in-planned c.args.n c.args.quiet c.args.r.now c.requires.valid c.requires.planned within

pub returns-else-not-is_flagged-clause-updates : goal.returns-else-not-is_flagged-clause-updates
returns-else-not-is_flagged-clause-updates c = λ _.
    let within : c.args.n ≤ c.args.quiet = omega arith in
    updates_in-planned c.args.n c.args.quiet c.args.r.now c.requires.valid c.requires.planned within
