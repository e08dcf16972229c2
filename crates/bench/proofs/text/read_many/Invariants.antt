use Rattle.std.proofs.Common.{◌+◌, ◌≤◌}
use Rattle.trace_text.specs.Lines.{IsOpen}
use Rattle.bench.proofs.text.read_many.Given as goal

abbrev pub invariant-loop-i : goal.invariant-loop-i
invariant-loop-i l = (IsOpen l.reading.stage) × (l.reading.lines ≤ l.i + 10)
