use Rattle.std.proofs.Common.{◌+◌, ◌-◌, ◌*◌, ◌<◌, arith}
use Rattle.rtc_registers.proofs.stretch.update_pulse.Goals as goal

pub overflow_sub-result : goal.overflow_sub-result
overflow_sub-result c =
    let fits : (0 < c.in-Some-matched.update) × (c.in-Some.pulse + (c.in-Some-matched.update - 1) * 32768 < 18446744073709551616) =
    c.requires c.in-Some.pulse c.in-Some-matched.update c.in-Some.is c.in-Some-matched.is in
    omega arith
