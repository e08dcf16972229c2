use Rattle.std.proofs.Common.{◌≡◌, ◌++◌, drop}
use Rattle.irq_edges.specs.Lines.{line_numbers}
use Rattle.irq_edges.specs.private.Rises.{edges_within, listed}
use Rattle.irq_edges.proofs.rises.sole_edge.Given as goal

-- with the edges of the lines that are left it is all edges
abbrev pub invariant-loop-place : goal.invariant-loop-place
invariant-loop-place l =
    listed l.sole ++ edges_within l.from l.to (drop l.place line_numbers) (drop l.place l.times) ≡ edges_within l.from l.to line_numbers l.times
