use Rattle.std.proofs.Common.{◌≡◌, ℕ, ◌<◌, true}
use Rattle.board_devices.specs.private.Ahead.{is_settled}
use Rattle.board_devices.proofs.devices.Devices.are_timers_settled.Given as goal

abbrev pub invariant-loop-k : goal.invariant-loop-k
invariant-loop-k l = (j : ℕ) → j < l.k → is_settled j l.self ≡ true
