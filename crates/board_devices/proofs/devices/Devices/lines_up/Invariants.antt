use Rattle.std.proofs.Common.{◌≡◌}
use Rattle.board_devices.specs.private.Stretch.{slots_from}
use Rattle.board_devices.specs.private.Ahead.{timer_up, front_up}
use Rattle.board_devices.proofs.devices.Devices.lines_up.Given as goal

abbrev pub invariant-loop-k : goal.invariant-loop-k
invariant-loop-k l = l.times ≡ slots_from l.k l.self.hpet (timer_up l.span l.self) (front_up l.span l.self)
