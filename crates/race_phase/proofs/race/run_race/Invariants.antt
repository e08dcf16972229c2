use Rattle.std.proofs.Common.{◌≡◌, [], Some}
use Rattle.race_phase.specs.Parts.{phases_in, open_in}
use Rattle.race_phase.specs.private.Feed.{board_or}
use Rattle.race_phase.proofs.Going.{IsGoing}
use Rattle.race_phase.proofs.race.run_race.Given as goal

abbrev pub invariant-loop-phase : goal.invariant-loop-phase
invariant-loop-phase g l = record {
  shown : l.opened ≡ Some l.opening;
  left : open_in [] l.taken.items ≡ [];
  going : IsGoing l.opening.deliveries l.opening.state (board_or l.opening.state l.left) (phases_in [] l.taken.items) l.text;
}
