use Rattle.std.proofs.Common.{◌≡◌, None}
use Rattle.hpet_registers.specs.Parts.{timer_fault_at, first_below}
use Rattle.hpet_registers.proofs.parts.timer_faults.Given as goal

abbrev pub invariant-loop-k : goal.invariant-loop-k
invariant-loop-k l = first_below (timer_fault_at l.parts) l.k ≡ None
