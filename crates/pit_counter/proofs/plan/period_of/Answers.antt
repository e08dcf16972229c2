use Rattle.std.proofs.Common.{arith}
use Rattle.pit_counter.proofs.Planned.{DividesBy-planned}
use Rattle.pit_counter.proofs.plan.period_of.Goals as goal

pub returns : goal.returns
returns c = DividesBy-planned c.args.p.now c.args.plan.now c.requires.planned (omega arith) c.if-plan-eq0.false
