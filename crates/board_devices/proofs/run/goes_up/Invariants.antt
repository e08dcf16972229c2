use Rattle.std.proofs.Common.{ℕ, ◌≤◌, take, Some}
use Rattle.std.specs.List.{Contains}
use Rattle.board_devices.proofs.run.goes_up.Given as goal

abbrev pub invariant-loop-time : goal.invariant-loop-time
invariant-loop-time l = (t : ℕ) → Contains (take l.time-index l.times) (Some t) → t ≤ l.from
