use Rattle.std.proofs.Common.{◌≡◌, ℕ, ◌<◌, false}
use Rattle.hpet_registers.specs.Outputs.{is_message}
use Rattle.hpet_registers.proofs.hpet.Hpet.has_message.Given as goal

abbrev pub invariant-loop-k : goal.invariant-loop-k
invariant-loop-k l = (j : ℕ) → j < l.k → is_message j l.self ≡ false
