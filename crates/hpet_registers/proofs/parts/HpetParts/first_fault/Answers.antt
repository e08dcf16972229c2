use Rattle.std.proofs.Common.{sym, ◌∙◌}
use Rattle.hpet_registers.proofs.Faults.{IsHpet-no_fault, no_fault-IsHpet}
use Rattle.hpet_registers.proofs.parts.HpetParts.first_fault.Goals as goal

pub returns-clause-none : goal.returns-clause-none
returns-clause-none c = (
  λ none. IsHpet-no_fault c.args.self.now (sym c.fault_of.ensures ∙ none),
  λ valid. c.fault_of.ensures ∙ no_fault-IsHpet c.args.self.now valid,
)
