use Rattle.std.proofs.Common.{◌≡◌, ◌++◌, drop}
use Rattle.irq_edges.specs.Lines.{changes}
use Rattle.irq_edges.proofs.lines.append_changes.Given as goal

-- with the edges of the lines that are left, they are all edges
abbrev pub invariant-loop-place : goal.invariant-loop-place
invariant-loop-place l =
    l.into ++ changes l.at (drop l.place l.lines) (drop l.place l.before) (drop l.place l.after) ≡ l.initial.into ++ changes l.at l.lines l.before l.after
