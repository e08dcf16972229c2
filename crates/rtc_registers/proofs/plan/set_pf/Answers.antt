use Rattle.rtc_registers.proofs.Flags.{IsRtc-flagged}
use Rattle.rtc_registers.proofs.plan.set_pf.Goals as goal

pub plan_of-requires : goal.plan_of-requires
plan_of-requires c = rw c.set_pf.ensures (IsRtc-flagged c.args.r.now c.requires)
