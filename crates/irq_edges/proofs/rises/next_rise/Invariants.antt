use Rattle.std.proofs.Common.{take}
use Rattle.irq_edges.specs.Rises.{IsNextRise}
use Rattle.irq_edges.proofs.rises.next_rise.Given as goal

abbrev pub invariant-loop-time : goal.invariant-loop-time
invariant-loop-time l = IsNextRise (take l.time-index l.times) l.at l.to l.next
