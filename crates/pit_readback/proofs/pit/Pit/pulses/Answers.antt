use Rattle.std.proofs.Common.{◌≡◌, ap, sym, ◌∙◌, List, subst}
use Rattle.pit_counter.specs.declared.parts.CounterParts.{CounterParts}
use Rattle.pit_readback.specs.Pit.{pit_pulsed_times}
use Rattle.pit_readback.specs.private.Wiring.{parts_of, IsWired}
use Rattle.pit_readback.specs.declared.parts.PitParts.{PitParts}
use Rattle.pit_readback.proofs.Gates.{IsWired-pulsed_times}
use Rattle.pit_readback.proofs.Three.{pit_pulsed_times-each}
use Rattle.pit_readback.proofs.pit.Pit.pulses.Goals as goal
use Rattle.pit_readback.proofs.pit.Pit.pulses.Goals.{After-pulse_each}

-- the counters are those after n pulses
after : (c : After-pulse_each) → record (parts_of c.self.inside) { counters = c.pulse_each.new.counters } ≡ pit_pulsed_times c.args.n (parts_of c.self.inside)
after c =
    ap (λ (xs : List CounterParts). record (parts_of c.self.inside) { counters = xs }) c.pulse_each.ensures.state
    ∙ sym (pit_pulsed_times-each c.args.n (parts_of c.self.inside))

pub invariant_of-self : goal.invariant_of-self
invariant_of-self c = subst (λ (p : PitParts). IsWired p) (sym (after c)) (IsWired-pulsed_times c.args.n (parts_of c.self.inside) c.self.invariant)

pub returns-clause-state : goal.returns-clause-state
returns-clause-state c = after c ∙ ap (pit_pulsed_times c.args.n) c.self.view_is
