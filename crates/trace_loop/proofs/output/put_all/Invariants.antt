use Rattle.std.proofs.Common.{◌≡◌, ◌-◌, ◌≤◌, false, length, take}
use Rattle.board_io.specs.Ends.{Grows}
use Rattle.trace_loop.proofs.output.put_all.Given as goal

-- the text up to `put` was taken, and no put failed
abbrev pub invariant-loop-put : goal.invariant-loop-put
invariant-loop-put g l = record {
  within : l.put ≤ length l.text;
  front : Grows (g.K.Sink.output l.fn.sink).contents (g.K.Sink.output l.sink).contents (take l.put l.text);
  well : (g.K.Sink.output l.sink).faults ≡ (g.K.Sink.output l.fn.sink).faults;
  quiet : (g.K.Sink.output l.sink).done ≡ (g.K.Sink.output l.fn.sink).done;
  once : (g.K.Sink.output l.fn.sink).done ≡ false → (g.K.Sink.output l.fn.sink).late ≡ false → (g.K.Sink.output l.sink).late ≡ false;
}

abbrev pub decreases-loop-put : goal.decreases-loop-put
decreases-loop-put g l = length l.text - l.put
