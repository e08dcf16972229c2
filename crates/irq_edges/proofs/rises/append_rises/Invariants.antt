use Rattle.std.proofs.Common.{◌≡◌, ◌++◌, drop, take}
use Rattle.irq_edges.specs.Lines.{line_numbers}
use Rattle.irq_edges.specs.Rises.{IsNextRise}
use Rattle.irq_edges.specs.private.Rises.{rising}
use Rattle.irq_edges.proofs.rises.append_rises.Given as goal

-- with the edges of the lines that are left, they are all edges
abbrev pub invariant-loop-place : goal.invariant-loop-place
invariant-loop-place l = record {
  edges : l.into ++ rising l.t (drop l.place line_numbers) (drop l.place l.times) ≡ l.initial.into ++ rising l.t line_numbers l.times;
  next : IsNextRise (take l.place l.times) l.t l.to l.next;
}
