use Rattle.std.proofs.Common.{ℕ, ◌<◌, ◌^◌}
use Rattle.board_devices.specs.Places.{line_at}
use Rattle.devices_tests.proofs.board_devices_tests.has_room.Given as goal

abbrev pub invariant-loop-k : goal.invariant-loop-k
invariant-loop-k l = (j : ℕ) → j < l.k → (line_at j l.devices).counts.due < 2 ^ 62
