use Rattle.rtc_registers.proofs.Writes.{IsRtc-rtc_written}
use Rattle.rtc_registers.proofs.rtc.Rtc.write.Goals as goal

pub plan_of-self-inside-requires : goal.plan_of-self-inside-requires
plan_of-self-inside-requires c = rw c.write.ensures (IsRtc-rtc_written c.args.byte _ c.self.invariant.valid)

pub invariant_of-self : goal.invariant_of-self
invariant_of-self c = record {
  valid = rw c.write.ensures (IsRtc-rtc_written c.args.byte _ c.self.invariant.valid);
  planned = c.plan_of-self-inside.ensures;
}
