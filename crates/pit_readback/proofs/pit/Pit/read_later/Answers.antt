use Rattle.std.proofs.Common.{rules, ℕ, ◌+◌, ◌-◌, ◌<◌, length, Bool, true, ap, sym, ◌∙◌, arith}
use Rattle.std.proofs.lemmas.List.{get_or_default}
use Rattle.clk_units.specs.Bits.{bit, bit_value}
use Rattle.pit_counter.specs.declared.parts.CounterParts.{CounterParts}
use Rattle.pit_counter.specs.Programming.{counter_at_power_on}
use Rattle.pit_counter.specs.Reading.{byte_read}
use Rattle.pit_counter.specs.Table.{pulsed_times}
use Rattle.pit_readback.specs.declared.parts.PitParts.{PitParts}
use Rattle.pit_readback.specs.private.Wiring.{parts_of}
use Rattle.pit_readback.specs.Pit.{counter_of, pit_pulsed_times}
use Rattle.pit_readback.specs.Ports.{port_read}
use Rattle.pit_readback.proofs.Gates.{gate-after_read, wired-set}
use Rattle.pit_readback.proofs.Later.{counter-port, byte-pulsed, system-pulsed}
use Rattle.pit_readback.proofs.pit.Pit.read_later.Goals as goal

pub invariant_of-self : goal.invariant_of-self
invariant_of-self c = wired-set (parts_of c.self.inside) _ _ _ c.self.invariant (ap (λ (d : CounterParts). d.gate) c.read_later.ensures.state ∙ gate-after_read _)

pub returns-then-port-eq-SYSTEM_PORT-clause-byte : goal.returns-then-port-eq-SYSTEM_PORT-clause-byte
returns-then-port-eq-SYSTEM_PORT-clause-byte c =
    let byte : CounterParts → Bool → ℕ = λ d speaker. bit_value d.gate 0 + bit_value speaker 1 + bit_value (bit 14 c.args.at) 4 + bit_value d.out 5 in
    c.byte_of_61.ensures
    ∙ ap (λ (d : CounterParts). byte d c.self.inside.speaker)
    (c.pulses.ensures.state ∙ ap (pulsed_times c.args.n) c.counter-counter.ensures.value)
    ∙ ap (λ (p : PitParts). byte (pulsed_times c.args.n (counter_of c.args.self.now 2)) p.speaker) c.self.view_is
    ∙ system-pulsed c.args.at c.args.n c.args.self.now
    ∙ ap (λ (port : ℕ). port_read c.args.at port (pit_pulsed_times c.args.n c.args.self.now)) (sym c.if-port-eq-SYSTEM_PORT.true)

pub returns-then-port-eq-CONTROL_PORT-clause-byte : goal.returns-then-port-eq-CONTROL_PORT-clause-byte
unfolding port_read
returns-then-port-eq-CONTROL_PORT-clause-byte c = search rules

pub returns-else-port-eq-CONTROL_PORT-clause-byte : goal.returns-else-port-eq-CONTROL_PORT-clause-byte
returns-else-port-eq-CONTROL_PORT-clause-byte c =
    let p : PitParts = parts_of c.self.inside in
    let k : ℕ = c.args.port - 0x40 in
    let three : k < length p.counters =
    omega (arith, c.self.invariant.three, counter-port c.args.port c.if-port-eq-SYSTEM_PORT.false c.if-port-eq-CONTROL_PORT.false c.requires) in
    c.read_later.ensures.byte
    ∙ ap (λ (d : CounterParts). byte_read (pulsed_times c.args.n d))
    (get_or_default p.counters k _ (counter_at_power_on true) three)
    ∙ byte-pulsed c.args.port c.if-port-eq-SYSTEM_PORT.false c.if-port-eq-CONTROL_PORT.false c.args.at c.args.n p
    ∙ ap (λ (x : PitParts). port_read c.args.at c.args.port (pit_pulsed_times c.args.n x)) c.self.view_is
