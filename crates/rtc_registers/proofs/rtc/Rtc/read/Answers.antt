use Rattle.rtc_registers.proofs.Flags.{IsRtc-after_rtc_read}
use Rattle.rtc_registers.proofs.rtc.Rtc.read.Goals as goal

pub invariant_of-self : goal.invariant_of-self
invariant_of-self c = record {
  valid = rw c.leave_read.ensures.state (IsRtc-after_rtc_read _ c.self.invariant.valid);
  planned = c.leave_read.ensures.planned;
}
