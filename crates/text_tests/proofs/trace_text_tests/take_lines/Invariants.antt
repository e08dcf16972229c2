use Rattle.std.proofs.Common.{◌+◌, ◌≤◌}
use Rattle.trace_text.specs.Lines.{IsOpen}
use Rattle.text_tests.proofs.trace_text_tests.take_lines.Given as goal

abbrev pub invariant-loop-line : goal.invariant-loop-line
invariant-loop-line g l = record {
  is_open : IsOpen l.reading.stage;
  few : l.reading.lines ≤ l.fn.reading.lines + l.line-index;
}
