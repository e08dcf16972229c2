use Rattle.std.proofs.Common.{◌+◌, sym, get_or}
use Rattle.clk_units.specs.Bits.{bit}
use Rattle.hpet_registers.specs.Stretch.{timer_matches}
use Rattle.board_devices.specs.Places.{no_line}
use Rattle.board_devices.specs.private.Stretch.{output_up}
use Rattle.board_devices.proofs.Idle.{slots-down}
use Rattle.board_devices.proofs.stretch.run_timers.Goals as goal

pub returns-else-not-timers_rest-clause-times : goal.returns-else-not-timers_rest-clause-times
returns-else-not-timers_rest-clause-times c = sym
    (slots-down c.args.h.now.timers c.args.h.now (λ k. output_up c.args.span k c.args.h.now (bit k c.args.status) (timer_matches c.args.matches.now k)
    (get_or c.args.lines.now (k + 2) no_line)) c.args.times.now (c.timers_rest.ensures.down c.if-not-timers_rest.false))
