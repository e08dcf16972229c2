use Rattle.std.proofs.Common.{ℕ, ◌^◌, ◌<◌}
use Rattle.local_apics.specs.Places.{line_at}
use Rattle.devices_tests.proofs.local_apics_tests.has_room.Given as goal

abbrev pub invariant-loop-cpu : goal.invariant-loop-cpu
invariant-loop-cpu l = (k : ℕ) → k < l.cpu → (line_at k l.apics).counts.due < 2 ^ 62
