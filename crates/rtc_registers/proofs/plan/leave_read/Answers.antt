use Rattle.std.proofs.Common.{sym}
use Rattle.std.proofs.lemmas.Bool.{ne_eqb}
use Rattle.rtc_registers.proofs.Flags.{IsRtc-after_rtc_read, after_rtc_read-other}
use Rattle.rtc_registers.proofs.plan.leave_read.Goals as goal

pub plan_of-requires : goal.plan_of-requires
plan_of-requires c = rw c.leave_read.ensures (IsRtc-after_rtc_read c.args.r.now c.requires.valid)

pub returns-else-r-eq-REGISTER_C-clause-state : goal.returns-else-r-eq-REGISTER_C-clause-state
returns-else-r-eq-REGISTER_C-clause-state c = sym (after_rtc_read-other c.args.r.now (ne_eqb _ _ c.if-r-eq-REGISTER_C.false))
