use Rattle.std.proofs.Common.{◌≡◌, ◌+◌, ◌-◌, ◌≤◌, ◌++◌, length}
use Rattle.irq_edges.specs.Lines.{line_numbers}
use Rattle.irq_edges.specs.Rises.{rises_of, IsNextRise}
use Rattle.irq_edges.specs.private.Rises.{down_at}
use Rattle.irq_edges.proofs.rises.emit_all.Given as goal

abbrev pub invariant-loop-next : goal.invariant-loop-next
invariant-loop-next l = record {
  forward : l.from ≤ l.at;
  inside : l.at ≤ l.to;
  next : IsNextRise l.times l.at l.to l.next;
  edges : l.into ≡ l.initial.into ++ rises_of line_numbers l.times l.from (l.at - l.from);
  room : length l.into + down_at l.at l.times ≤ length l.initial.into + 6;
}

abbrev pub decreases-loop-next : goal.decreases-loop-next
decreases-loop-next l = l.to - l.at
