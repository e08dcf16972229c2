use Rattle.std.proofs.Common.{◌∙◌}
use Rattle.tick_policy.proofs.Ticks.{ticked_times-one}
use Rattle.tick_policy.proofs.line.TickLine.run_event.Goals as goal

pub returns-in-Tick : goal.returns-in-Tick
returns-in-Tick c = rw c.in-Tick.is (c.due.ensures ∙ ticked_times-one c.args.self.now)
