use Rattle.shared_board.specs.private.Seats.{IsJoining}
use Rattle.shared_board.proofs.stop.join_all.Given as goal

abbrev pub invariant-loop-pass : goal.invariant-loop-pass
invariant-loop-pass g l = IsJoining g.N.Name.passes l.yielded l.initial.seat.seen l.seat
