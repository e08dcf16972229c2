use Rattle.rtc_registers.proofs.Flags.{IsRtc-flagged}
use Rattle.rtc_registers.proofs.rtc.Rtc.set_pf.Goals as goal

pub invariant_of-self : goal.invariant_of-self
invariant_of-self c = record {
  valid = rw c.set_pf.ensures.state (IsRtc-flagged _ c.self.invariant.valid);
  planned = c.set_pf.ensures.planned;
}
