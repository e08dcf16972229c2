use Rattle.std.proofs.Common.{◌≡◌, ◌≤◌, length, take}
use Rattle.edge_hooks.proofs.Delivered.{Delivered}
use Rattle.edge_hooks.proofs.hooks.Hooks.deliver.Given as goal

abbrev pub invariant-loop-edge : goal.invariant-loop-edge
invariant-loop-edge g l = record {
  edges : l.edge-items ≡ l.edges;
  fits : length l.edge-items ≤ 24;
  delivered : Delivered l.self.cpus (goal.F-post g l.self.hook) (take l.edge-index l.edge-items) l.deliveries;
}
