use Rattle.rtc_registers.proofs.Writes.{IsRtc-rtc_at_power_on}
use Rattle.rtc_registers.proofs.rtc.Rtc.power_on.Goals as goal

pub planned-requires : goal.planned-requires
planned-requires c = rw c.rtc_at_power_on.ensures (IsRtc-rtc_at_power_on c.args.bytes)
