use Rattle.std.proofs.Common.{sym, ◌∙◌, below_more}
use Rattle.board_devices.proofs.devices.Devices.are_timers_settled.Goals as goal

pub loop-k-preserved : goal.loop-k-preserved
loop-k-preserved c = below_more _ _ c.loop-k.invariant (sym c.is_settled.ensures ∙ c.if-not-is_settled.false)
