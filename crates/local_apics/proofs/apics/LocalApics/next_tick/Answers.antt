use Rattle.std.proofs.Common.{subst}
use Rattle.lapic_timer.specs.declared.parts.ApicParts.{ApicParts}
use Rattle.lapic_timer.specs.Deadline.{IsFirstAt}
use Rattle.local_apics.specs.Nanosecond.{ticks_at, tsc_in}
use Rattle.local_apics.proofs.apics.LocalApics.next_tick.Goals as goal

pub returns : goal.returns
returns c =
    subst (λ (p : ApicParts). IsFirstAt (ticks_at (tsc_in c.args.clock.now c.args.tsc) c.args.from p) c.args.from c.args.to c.next_tick.result)
    c.timer.ensures.value c.next_tick.ensures
