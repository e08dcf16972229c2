use Rattle.std.proofs.Common.{◌≡◌, false, ◌+◌, ◌-◌, ◌*◌, length}
use Rattle.trace_loop.specs.private.Going.{IsFed, IsGoing, ends_of}
use Rattle.trace_loop.proofs.program.answer_fed.Given as goal

-- the progress is the one after what was cut off or kept, and `out` is what it printed since the last put
abbrev pub invariant-lines : goal.invariant-lines
invariant-lines g l =
    let ends = λ (source : g.row.S.Denot) (sink : g.row.K.Denot). ends_of (g.S.Source.input source) (g.K.Sink.output sink) in
    record {
      may : g.T.Answerer.may (l.feed.lines.number + 1) l.answerer;
      fed : IsFed l.feed (g.S.Source.input l.source).given;
      going : IsGoing g.row.T.Denot g.row.E.Denot g.T.Answerer.answer l.fn.answerer (ends l.fn.source l.fn.sink) l.answerer l.feed (ends l.source l.sink);
      quiet : (g.K.Sink.output l.sink).done ≡ (g.K.Sink.output l.fn.sink).done;
      once : (g.K.Sink.output l.fn.sink).done ≡ false → (g.K.Sink.output l.fn.sink).late ≡ false → (g.K.Sink.output l.sink).late ≡ false;
    }

abbrev pub decreases-lines : goal.decreases-lines
decreases-lines g l = 2 * (4611686018427387904 - (g.S.Source.input l.source).given) + length l.feed.lines.left
