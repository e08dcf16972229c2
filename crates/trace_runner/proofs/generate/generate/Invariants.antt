use Rattle.std.proofs.Common.{◌≡◌, ℕ, false, List, ◌++◌, length}
use Rattle.board_io.specs.Ends.{Grows}
use Rattle.trace_gen.specs.Text.{gen_text}
use Rattle.trace_runner.proofs.generate.generate.Given as goal

-- what was put, and what is still to come
abbrev pub invariant-pieces : goal.invariant-pieces
invariant-pieces g l =
    (put : List ℕ) × (gen_text l.fn.size.key l.fn.size.records l.fn.size.cpus ≡ put ++ l.generator)
    × Grows (g.K.Sink.output l.fn.sink).contents (g.K.Sink.output l.sink).contents put
    × ((g.K.Sink.output l.sink).faults ≡ (g.K.Sink.output l.fn.sink).faults)
    × ((g.K.Sink.output l.sink).done ≡ (g.K.Sink.output l.fn.sink).done)
    × ((g.K.Sink.output l.fn.sink).done ≡ false → (g.K.Sink.output l.fn.sink).late ≡ false → (g.K.Sink.output l.sink).late ≡ false)

abbrev pub decreases-pieces : goal.decreases-pieces
decreases-pieces g l = length l.generator
