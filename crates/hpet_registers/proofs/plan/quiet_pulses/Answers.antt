use Rattle.std.proofs.Common.{ℕ, min, rules, ap, ◌∙◌}
use Rattle.hpet_registers.specs.private.Plan.{quiet_below}
use Rattle.hpet_registers.proofs.Planned.{quiet_below-more}
use Rattle.hpet_registers.proofs.plan.quiet_pulses.Goals as goal

pub loop-k-init : goal.loop-k-init
unfolding quiet_below
loop-k-init c = search rules

pub loop-k-preserved : goal.loop-k-preserved
loop-k-preserved c =
    c.min-quiet.ensures
    ∙ (ap (λ (q : ℕ). min q c.pulses_before.result) c.loop-k.invariant
    ∙ (ap (min (quiet_below c.loop-k.k c.args.parts.now)) c.pulses_before.ensures.value ∙ quiet_below-more c.loop-k.k c.args.parts.now))
