use Rattle.std.proofs.Common.{◌-◌, refl, sym}
use Rattle.local_apics.proofs.Product.{run-idle}
use Rattle.board_core.proofs.ApicTimers.{tscs_read}
use Rattle.board_core.proofs.apics.run_apics.Goals as goal

pub returns-else-is_armed : goal.returns-else-is_armed
returns-else-is_armed c =
    let are = c.if-is_armed.ensures.joined in
    sym (run-idle (tscs_read c.args.anchor c.args.guest_khz c.args.processors.now) c.args.from
    (c.args.to - c.args.from) c.args.apics.now are.timers are.lines (c.if-is_armed.ensures.idle.0 refl))
