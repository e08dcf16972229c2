use Rattle.std.proofs.Common.{◌-◌, ◌<◌, ◌≤◌, ◌+◌, Some, None, sym, ◌∙◌, arith}
use Rattle.board_core.proofs.Messages.{message-in, silent-before}
use Rattle.board_core.proofs.lag.silent_to.Goals as goal

within : (c : goal.In-Some) → (c.args.now < c.in-Some.message) × (c.in-Some.message ≤ c.args.now + (c.args.to - c.args.now))
within c = message-in c.args.now (c.args.to - c.args.now) c.args.devices.now.hpet c.in-Some.message (sym c.in-Some.is ∙ c.next_message.ensures)

pub overflow_sub-result : goal.overflow_sub-result
overflow_sub-result c = omega (arith, (within c).0)

pub returns-in-Some-clause-order : goal.returns-in-Some-clause-order
returns-in-Some-clause-order c = omega (arith, (within c).0)

pub returns-in-Some-clause-most : goal.returns-in-Some-clause-most
returns-in-Some-clause-most c = omega (arith, (within c).1, c.requires.order)

pub returns-in-Some-clause-silent : goal.returns-in-Some-clause-silent
returns-in-Some-clause-silent c k n small less =
    silent-before c.args.now (c.args.to - c.args.now) (n + 1) c.args.devices.now.hpet (Some c.in-Some.message) (sym c.in-Some.is ∙ c.next_message.ensures)
    (omega (arith, less)) k n small (omega arith)

pub returns-in-None-clause-silent : goal.returns-in-None-clause-silent
returns-in-None-clause-silent c k n small less =
    silent-before c.args.now (c.args.to - c.args.now) (n + 1) c.args.devices.now.hpet None (sym c.in-None.is ∙ c.next_message.ensures)
    (omega (arith, less)) k n small (omega arith)
