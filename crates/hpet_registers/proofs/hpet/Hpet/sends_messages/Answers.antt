use Rattle.std.proofs.Common.{ap, sym, subst, ◌∙◌}
use Rattle.hpet_registers.specs.declared.parts.HpetParts.{HpetParts}
use Rattle.hpet_registers.specs.Parts.{IsHpet}
use Rattle.hpet_registers.proofs.Messages.{no_message, has_message_below-none}
use Rattle.hpet_registers.proofs.hpet.Hpet.sends_messages.Goals as goal

pub returns-then-not-self : goal.returns-then-not-self
returns-then-not-self c = sym (has_message_below-none 8 c.args.self.now (no_message c.args.self.now (subst IsHpet c.self.view_is c.self.invariant.valid)
    (ap (λ (h : HpetParts). h.messages) (sym c.self.view_is) ∙ c.if-not-self.true)))
