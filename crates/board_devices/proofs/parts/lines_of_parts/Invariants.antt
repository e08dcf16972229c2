use Rattle.std.proofs.Common.{◌≡◌, ℕ, ◌<◌, get_or, length}
use Rattle.tick_policy.specs.Parts.{IsTickLine}
use Rattle.board_devices.specs.Places.{no_line}
use Rattle.board_devices.proofs.parts.lines_of_parts.Given as goal

abbrev pub invariant-loop-k : goal.invariant-loop-k
invariant-loop-k l = record {
  places : length l.lines ≡ 10;
  same : (j : ℕ) → j < l.k → get_or l.lines j no_line ≡ get_or l.parts j no_line;
  valid : (j : ℕ) → j < l.k → IsTickLine (get_or l.parts j no_line);
}
