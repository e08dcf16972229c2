use Rattle.std.proofs.Common.{ap, ◌∙◌}
use Rattle.pit_counter.specs.declared.parts.CounterParts.{CounterParts}
use Rattle.pit_readback.specs.private.Wiring.{parts_of}
use Rattle.pit_readback.proofs.Gates.{gate-after_read, wired-set}
use Rattle.pit_readback.proofs.pit.Pit.read.Goals as goal

pub invariant_of-self : goal.invariant_of-self
invariant_of-self c = wired-set (parts_of c.self.inside) _ _ _ c.self.invariant (ap (λ (d : CounterParts). d.gate) c.read.ensures.state ∙ gate-after_read _)
