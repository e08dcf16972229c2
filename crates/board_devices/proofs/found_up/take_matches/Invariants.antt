use Rattle.std.proofs.Common.{◌≡◌, ℕ, ◌+◌, ◌<◌, ◌≤◌, cond, get_or, length}
use Rattle.hpet_registers.specs.Outputs.{has_ticks}
use Rattle.hpet_registers.specs.Stretch.{timer_matches}
use Rattle.tick_policy.specs.Line.{ticked_times}
use Rattle.board_devices.specs.Places.{no_line}
use Rattle.board_devices.proofs.found_up.take_matches.Given as goal

abbrev pub invariant-loop-k : goal.invariant-loop-k
invariant-loop-k l = record {
  places : length l.lines ≡ 10;
  front : (j : ℕ) → j < 2 → get_or l.lines j no_line ≡ get_or l.fn.lines j no_line;
  done : (j : ℕ) → j < l.k → get_or l.lines (j + 2) no_line
      ≡ ticked_times (cond (has_ticks j l.h) (timer_matches l.matches j).count 0) (get_or l.fn.lines (j + 2) no_line);
  rest : (j : ℕ) → l.k + 2 ≤ j → get_or l.lines j no_line ≡ get_or l.fn.lines j no_line;
}
