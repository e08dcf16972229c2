use Rattle.std.proofs.Common.{◌≡◌, ℕ, Bool, true, false, not, ◌&&◌, refl, ap, sym, ◌∙◌, lit<}
use Rattle.pit_counter.specs.Table.{has_risen}
use Rattle.pit_readback.specs.Pit.{counter_of}
use Rattle.pit_readback.specs.Ports.{port_written}
use Rattle.pit_readback.specs.declared.parts.PitParts.{PitParts}
use Rattle.pit_readback.proofs.Three.{port_written-61, counter_of-written_61}
use Rattle.pit_readback.proofs.pit.Pit.write.Goals as goal

never_both : (b : Bool) → (not b && b) ≡ false
never_both true = refl
never_both false = refl

pub returns-then-port-eq-SYSTEM_PORT-clause-rose : goal.returns-then-port-eq-SYSTEM_PORT-clause-rose
returns-then-port-eq-SYSTEM_PORT-clause-rose c =
    let p = c.args.self.now in
    let same : counter_of (port_written c.args.port c.args.byte p) 0 ≡ counter_of p 0 =
    ap (λ (n : ℕ). counter_of (port_written n c.args.byte p) 0) c.if-port-eq-SYSTEM_PORT.true
    ∙ ap (λ (q : PitParts). counter_of q 0) (port_written-61 c.args.byte p) ∙ counter_of-written_61 c.args.byte 0 p (lit< tt) in
    sym (ap (has_risen (counter_of p 0)) same ∙ never_both (counter_of p 0).out)
