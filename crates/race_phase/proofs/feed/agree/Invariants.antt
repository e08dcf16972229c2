use Rattle.std.proofs.Common.{◌≡◌, take}
use Rattle.race_phase.proofs.feed.agree.Given as goal

abbrev pub invariant-loop-at : goal.invariant-loop-at
invariant-loop-at g l = take l.at l.some.items ≡ take l.at l.others.items
