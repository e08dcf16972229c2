use Rattle.std.proofs.Common.{◌≡◌, false, take}
use Rattle.board_io.specs.Ends.{Grows}
use Rattle.std.specs.List.{flat_map}
use Rattle.std.specs.Vec.{vec_items}
use Rattle.trace_loop.proofs.output.put_each.Given as goal

-- the texts so far were taken
abbrev pub invariant-loop-text : goal.invariant-loop-text
invariant-loop-text g l = record {
  front : Grows (g.K.Sink.output l.fn.sink).contents (g.K.Sink.output l.sink).contents (flat_map vec_items (take l.text-index l.texts));
  well : (g.K.Sink.output l.sink).faults ≡ (g.K.Sink.output l.fn.sink).faults;
  quiet : (g.K.Sink.output l.sink).done ≡ (g.K.Sink.output l.fn.sink).done;
  once : (g.K.Sink.output l.fn.sink).done ≡ false → (g.K.Sink.output l.fn.sink).late ≡ false → (g.K.Sink.output l.sink).late ≡ false;
}
