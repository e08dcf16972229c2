use Rattle.std.proofs.Common.{◌≡◌, ◌≤◌, ◌-◌}
use Rattle.clock_table.specs.Steps.{named, first_view}
use Rattle.shared_board.specs.Stops.{newcomers}
use Rattle.shared_board.proofs.stop.new_passes.Given as goal

abbrev pub invariant-loop-number : goal.invariant-loop-number
invariant-loop-number g l = record {
  low : l.number ≤ l.passes;
  list : l.list.items ≡ newcomers g.N.Name.state l.number;
  seat : l.seat ≡ record (named g.N.Name.passes (first_view g.N.Name.state)) { made = l.number };
}

abbrev pub decreases-loop-number : goal.decreases-loop-number
decreases-loop-number g l = l.passes - l.number
