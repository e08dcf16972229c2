use Rattle.std.proofs.Common.{ap, false}
use Rattle.pit_counter.specs.declared.parts.CounterParts.{CounterParts}
use Rattle.pit_counter.specs.Programming.{programmed}
use Rattle.pit_readback.proofs.Gates.{IsWired-of}
use Rattle.pit_readback.proofs.pit.Pit.power_on.Goals as goal

pub invariant_of-result : goal.invariant_of-result
unfolding programmed
invariant_of-result c =
    IsWired-of c.power_on.result c.power_on-2.result c.power_on-3.result false (ap (λ (d : CounterParts). d.gate) c.power_on.ensures)
    (ap (λ (d : CounterParts). d.gate) c.power_on-2.ensures)
