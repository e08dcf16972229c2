use Rattle.lapic_timer.proofs.Waits.{counts-split}
use Rattle.lapic_timer.proofs.deadline.counts_in.Goals as goal

pub returns : goal.returns
returns c = counts-split c.args.ns c.args.khz
