use Rattle.std.proofs.Common.{◌≡◌, None}
use Rattle.board_meters.specs.Meters.{spent_in}
use Rattle.board_meters.proofs.tally.spent_below.Given as goal

abbrev pub invariant-loop-cpu : goal.invariant-loop-cpu
invariant-loop-cpu l = spent_in l.versions l.cpu ≡ None
