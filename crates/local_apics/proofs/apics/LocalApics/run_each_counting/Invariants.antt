use Rattle.std.proofs.Common.{ℕ}
use Rattle.local_apics.specs.private.Stretch.{IsRunBelow}
use Rattle.local_apics.proofs.apics.LocalApics.run_each_counting.Given as goal

abbrev pub invariant-loop-cpu : goal.invariant-loop-cpu
invariant-loop-cpu l = (tsc : ℕ → ℕ → ℕ) (from : ℕ) → IsRunBelow l.cpu tsc from l.n l.fn.self l.self
