use Rattle.std.proofs.Common.{ap, ◌∙◌, lit<}
use Rattle.pit_counter.specs.declared.parts.CounterParts.{CounterParts}
use Rattle.pit_readback.proofs.Gates.{IsWired-of, gate-read_back_of}
use Rattle.pit_readback.proofs.pit.Pit.read_back.Goals as goal

pub invariant_of-self : goal.invariant_of-self
invariant_of-self c =
    IsWired-of _ _ _ _
    (ap (λ (d : CounterParts). d.gate) c.read_back_of-first.ensures ∙ gate-read_back_of c.args.byte 0 c.counter.result ∙ c.counter.ensures.wired (lit< tt))
    (ap (λ (d : CounterParts). d.gate) c.read_back_of-second.ensures ∙ gate-read_back_of c.args.byte 1 c.counter-2.result ∙ c.counter-2.ensures.wired (lit< tt))
