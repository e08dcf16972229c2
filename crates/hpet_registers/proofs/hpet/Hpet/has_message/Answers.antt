use Rattle.std.proofs.Common.{sym, ◌∙◌, arith}
use Rattle.hpet_registers.proofs.Messages.{has_message_below-none, has_message_below-some}
use Rattle.hpet_registers.proofs.hpet.Hpet.has_message.Goals as goal

pub returns-then-is_message : goal.returns-then-is_message
returns-then-is_message c = sym (has_message_below-some 8 c.loop-k.k c.args.self.now (omega (arith, c.loop-k-test.true)) (sym c.is_message.ensures ∙ c.if-is_message.true))

pub returns : goal.returns
returns c = sym (has_message_below-none 8 c.args.self.now (λ k less. c.loop-k.invariant k (omega (arith, less, c.loop-k-test.false, c.loop-k.auto.k-end))))
