use Rattle.std.proofs.Common.{ap}
use Rattle.pit_counter.specs.declared.parts.CounterParts.{CounterParts}
use Rattle.pit_counter.specs.Programming.{programmed}
use Rattle.pit_counter.specs.Reading.{with_count_latched}
use Rattle.pit_readback.proofs.pit.commanded.Goals as goal

pub returns-then-byte-eq0-clause-gate : goal.returns-then-byte-eq0-clause-gate
unfolding with_count_latched
returns-then-byte-eq0-clause-gate c = ap (λ (d : CounterParts). d.gate) c.latch_count.ensures

pub returns-clause-gate : goal.returns-clause-gate
unfolding programmed
returns-clause-gate c = ap (λ (d : CounterParts). d.gate) c.control.ensures.state
