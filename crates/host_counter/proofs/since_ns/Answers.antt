use Rattle.std.proofs.Common.{arith}
use Rattle.host_counter.proofs.Times.{since-split}
use Rattle.host_counter.proofs.since_ns.Goals as goal

pub returns : goal.returns
returns c = rw (c.from.ensures, c.from-2.ensures, c.from-3.ensures) (since-split c.args.counts c.args.khz (omega arith))
