use Rattle.std.proofs.Common.{ap, ◌∙◌}
use Rattle.pit_counter.specs.declared.parts.CounterParts.{CounterParts}
use Rattle.pit_readback.proofs.Gates.{gate-byte_written}
use Rattle.pit_readback.proofs.pit.byte_written.Goals as goal

pub returns-clause-gate : goal.returns-clause-gate
returns-clause-gate c = ap (λ (d : CounterParts). d.gate) c.write_byte.ensures ∙ gate-byte_written c.args.byte c.args.counter
