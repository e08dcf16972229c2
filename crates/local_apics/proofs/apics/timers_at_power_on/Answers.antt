use Rattle.std.proofs.Common.{◌≡◌, ◌+◌, set, List, ap, ◌∙◌, arith}
use Rattle.lapic_timer.specs.declared.parts.ApicParts.{ApicParts}
use Rattle.local_apics.specs.Parts.{timers_at_power_on}
use Rattle.local_apics.proofs.PowerOn.{power_on-more}
use Rattle.local_apics.proofs.apics.timers_at_power_on.Goals as goal

pub loop-cpu-preserved : goal.loop-cpu-preserved
loop-cpu-preserved c =
    let more : set c.loop-cpu.timers c.loop-cpu.cpu c.power_on.result ≡ timers_at_power_on (c.loop-cpu.cpu + 1) =
    ap (λ (ts : List ApicParts). set ts c.loop-cpu.cpu c.power_on.result) c.loop-cpu.invariant
    ∙ ap (set (timers_at_power_on c.loop-cpu.cpu) c.loop-cpu.cpu) c.power_on.ensures
    ∙ power_on-more c.loop-cpu.cpu (omega (arith, c.loop-cpu-test.true, c.requires)) in
    more
