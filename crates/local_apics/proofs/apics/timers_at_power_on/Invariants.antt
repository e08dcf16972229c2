use Rattle.std.proofs.Common.{◌≡◌}
use Rattle.local_apics.specs.Parts.{timers_at_power_on}
use Rattle.local_apics.proofs.apics.timers_at_power_on.Given as goal

abbrev pub invariant-loop-cpu : goal.invariant-loop-cpu
invariant-loop-cpu l = l.timers ≡ timers_at_power_on l.cpu
