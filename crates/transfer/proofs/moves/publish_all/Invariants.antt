use Rattle.std.proofs.Common.{◌≡◌}
use Rattle.transfer.specs.Move.{published_below}
use Rattle.transfer.proofs.moves.publish_all.Given as goal

abbrev pub invariant-loop-cpu : goal.invariant-loop-cpu
invariant-loop-cpu l =
    l.board ≡ published_below l.from l.khz l.start l.gap l.cpu l.fn.board
