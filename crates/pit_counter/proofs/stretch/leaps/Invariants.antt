use Rattle.std.proofs.Common.{◌≤◌, ◌-◌}
use Rattle.pit_counter.specs.Parts.{IsCounter}
use Rattle.pit_counter.specs.private.Taken.{HasTaken}
use Rattle.pit_counter.proofs.stretch.leaps.Given as goal

abbrev pub invariant-loop-pulses : goal.invariant-loop-pulses
invariant-loop-pulses l = record {
  within : l.pulses ≤ l.n;
  valid : IsCounter l.parts;
  taken : HasTaken l.pulses l.fn.p l.parts l.rises;
}

abbrev pub decreases-loop-pulses : goal.decreases-loop-pulses
decreases-loop-pulses l = l.n - l.pulses
