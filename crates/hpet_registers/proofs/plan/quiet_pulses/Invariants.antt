use Rattle.std.proofs.Common.{◌≡◌}
use Rattle.hpet_registers.specs.private.Plan.{quiet_below}
use Rattle.hpet_registers.proofs.plan.quiet_pulses.Given as goal

abbrev pub invariant-loop-k : goal.invariant-loop-k
invariant-loop-k l = l.quiet ≡ quiet_below l.k l.parts
