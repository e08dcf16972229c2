use Rattle.std.proofs.Common.{◌≡◌, ◌+◌, ◌≤◌, drop}
use Rattle.board_devices.specs.Rises.{lifts}
use Rattle.board_core.proofs.rises.lifts.Given as goal

abbrev pub invariant-loop-k : goal.invariant-loop-k
invariant-loop-k l = record {
  sum : l.count + lifts l.line (drop l.k l.edges) ≡ lifts l.line l.edges;
  few : l.count ≤ l.k;
}
