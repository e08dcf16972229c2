use Rattle.rtc_registers.proofs.Times.{IsRtc-rtc_pulsed_times}
use Rattle.rtc_registers.proofs.stretch.pass_events.Goals as goal

pub plan_of-requires : goal.plan_of-requires
plan_of-requires c = rw c.take_pulses-events.ensures.state (IsRtc-rtc_pulsed_times c.args.n _ c.requires)
