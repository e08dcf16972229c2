use Rattle.std.proofs.Common.{◌≡◌}
use Rattle.board_meters.specs.Meters.{raised_below}
use Rattle.board_meters.proofs.tally.raise_all.Given as goal

abbrev pub invariant-loop-cpu : goal.invariant-loop-cpu
invariant-loop-cpu l = l.versions ≡ raised_below l.cpu l.fn.versions
