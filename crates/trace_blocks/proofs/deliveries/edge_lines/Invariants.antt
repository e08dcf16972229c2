use Rattle.std.proofs.Common.{◌≡◌, ◌++◌, take}
use Rattle.trace_blocks.specs.Blocks.{edges_text}
use Rattle.trace_blocks.proofs.deliveries.edge_lines.Given as goal

-- the lines of the edges so far are after the text
abbrev pub invariant-loop-edge : goal.invariant-loop-edge
invariant-loop-edge l = l.out.items ≡ l.fn.out.items ++ edges_text l.deliveries (take l.edge-index l.edges)
