use Rattle.std.proofs.Common.{◌≡◌, length, take, map}
use Rattle.irq_edges.specs.Rises.{is_up_at}
use Rattle.irq_edges.proofs.rises.lines_at.Given as goal

abbrev pub invariant-loop-place : goal.invariant-loop-place
invariant-loop-place l = record {
  six : length l.levels ≡ 6;
  done : take l.place l.levels ≡ map (is_up_at l.t) (take l.place l.times);
}
