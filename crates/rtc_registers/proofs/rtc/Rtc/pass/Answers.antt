use Rattle.rtc_registers.proofs.Times.{IsRtc-rtc_pulsed_times}
use Rattle.rtc_registers.proofs.rtc.Rtc.pass.Goals as goal

pub invariant_of-self : goal.invariant_of-self
invariant_of-self c = record {
  valid = rw c.pass.ensures.state (IsRtc-rtc_pulsed_times c.args.n _ c.self.invariant.valid);
  planned = c.pass.ensures.planned;
}
