use Rattle.pit_counter.proofs.Keeps.{IsCounter-programmed}
use Rattle.std.proofs.Common.{lit≤, lit<}
use Rattle.pit_counter.proofs.counter.Counter.power_on.Goals as goal

pub planned-requires : goal.planned-requires
planned-requires c = rw c.programmed.ensures (IsCounter-programmed 0x36 c.args.gate (lit≤ tt) (lit< tt))
