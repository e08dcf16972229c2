use Rattle.rtc_registers.proofs.Planned.{before_tick-first, before_tick-none}
use Rattle.rtc_registers.proofs.plan.before_tick.Goals as goal

pub returns-in-Some : goal.returns-in-Some
returns-in-Some c = before_tick-first c.args.divider.now c.requires.valid c.requires.runs 32768 c.in-Some.pulse c.in-Some.ensures

pub returns-in-None : goal.returns-in-None
returns-in-None c = before_tick-none c.args.divider.now c.requires.valid c.requires.runs c.in-None.ensures
