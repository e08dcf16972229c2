use Rattle.std.proofs.Common.{◌≡◌, ◌++◌}
use Rattle.race_phase.proofs.race.join_parts.Given as goal

abbrev pub invariant-loop-part : goal.invariant-loop-part
invariant-loop-part g l = l.taken.items ≡ l.fn.taken.items ++ l.yielded
