use Rattle.std.proofs.Common.{rules, ◌≡◌, ℕ, bit_and, ap, sym, subst, ◌∙◌}
use Rattle.hpet_registers.specs.declared.parts.HpetParts.{HpetParts}
use Rattle.hpet_registers.specs.Access.{hpet_written}
use Rattle.hpet_registers.proofs.Conditions.{IsHpet-register_written}
use Rattle.hpet_registers.proofs.Laws.{status-register_written}
use Rattle.hpet_registers.proofs.Halves.{hpet_written-halves}
use Rattle.hpet_registers.proofs.hpet.Hpet.write.Goals as goal

pub plan_of-self-inside-requires : goal.plan_of-self-inside-requires
plan_of-self-inside-requires c = rw c.write_register.ensures
    (IsHpet-register_written c.register_at-register.result c.args.width _ c.args.v c.self.inside.parts c.self.invariant.valid
    c.register_at-register.ensures.range)

pub invariant_of-self : goal.invariant_of-self
invariant_of-self c = record {
  valid = rw c.write_register.ensures
      (IsHpet-register_written c.register_at-register.result c.args.width _ c.args.v c.self.inside.parts c.self.invariant.valid
      c.register_at-register.ensures.range);
  planned = c.plan_of-self-inside.ensures;
}

pub returns-then-is_effective-clause-quiet : goal.returns-then-is_effective-clause-quiet
returns-then-is_effective-clause-quiet c = rw (← c.self.view_is)
    (subst (λ (h : HpetParts). bit_and h.status c.self.inside.parts.status ≡ h.status) (sym c.write_register.ensures)
    (status-register_written c.register_at-register.result c.args.width _ c.args.v c.self.inside.parts))

pub returns-then-is_effective-clause-halves : goal.returns-then-is_effective-clause-halves
returns-then-is_effective-clause-halves c = rw (← c.self.view_is) (λ whole aligned plain.
    let value : c.write_register.new.parts ≡ hpet_written c.args.offset c.args.width c.args.v c.self.inside.parts = search rules in
    value ∙ (ap (λ (w : ℕ). hpet_written c.args.offset w c.args.v c.self.inside.parts) whole
    ∙ hpet_written-halves c.args.offset c.args.v c.self.inside.parts aligned plain))
