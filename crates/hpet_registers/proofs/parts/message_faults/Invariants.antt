use Rattle.std.proofs.Common.{◌≡◌, None}
use Rattle.hpet_registers.specs.Parts.{message_fault_at, first_below}
use Rattle.hpet_registers.proofs.parts.message_faults.Given as goal

abbrev pub invariant-loop-k : goal.invariant-loop-k
invariant-loop-k l = first_below (message_fault_at l.parts) l.k ≡ None
