-- Lemmas on the main counter.
use Rattle.std.proofs.Common.{◌≡◌, ℕ, suc, ◌^◌, ◌<◌, arith}
use Rattle.hpet_comparator.specs.Counter.{counter_after}

-- no pulses
pub counter_after-zero : (v : ℕ) → v < 2 ^ 64 → counter_after v 0 ≡ v
counter_after-zero v h = omega arith

-- one pulse more: it is a single pulse after those before it
pub counter_after-suc : (v n : ℕ) → counter_after v (suc n) ≡ counter_after (counter_after v n) 1
counter_after-suc v n = omega arith
