use Rattle.std.proofs.Common.{◌≡◌, ℕ, ◌<◌, ◌≤◌}
use Rattle.hpet_registers.specs.Stretch.{timer_matches}
use Rattle.hpet_registers.proofs.Places.{ArePulsed}
use Rattle.hpet_registers.proofs.stretch.pulse_timers.Given as goal

abbrev pub invariant-loop-k : goal.invariant-loop-k
invariant-loop-k l = record {
  pulsed : ArePulsed l.fn.parts l.n l.k l.parts l.matches;
  inside : l.reach ≤ l.k;
  small : l.reach ≤ 8;
  quiet : (j : ℕ) → j < l.k → l.reach ≤ j → (timer_matches l.matches j).count ≡ 0;
}
