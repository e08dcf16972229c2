use Rattle.std.proofs.Common.{◌≡◌, ℕ, ◌+◌, ◌<◌, ◌≤◌, get_or, length}
use Rattle.clk_units.specs.Bits.{bit}
use Rattle.hpet_registers.specs.Stretch.{timer_matches}
use Rattle.board_devices.specs.Places.{no_line}
use Rattle.board_devices.specs.private.Stretch.{timer_ticks, end_of, output_up, slots_from}
use Rattle.board_devices.proofs.stretch.run_timers_apart.Given as goal

abbrev pub invariant-loop-k : goal.invariant-loop-k
invariant-loop-k l = record {
  places : length l.lines ≡ 10;
  front : (j : ℕ) → j < 2 → get_or l.lines j no_line ≡ get_or l.fn.lines j no_line;
  done : (j : ℕ) → j < l.k → get_or l.lines (j + 2) no_line ≡ end_of l.span.point l.span.to
      (timer_ticks l.span.from j l.h (timer_matches l.matches j)) (get_or l.fn.lines (j + 2) no_line);
  rest : (j : ℕ) → l.k + 2 ≤ j → get_or l.lines j no_line ≡ get_or l.fn.lines j no_line;
  times : l.times ≡ slots_from l.k l.h (λ j. output_up l.span j l.h (bit j l.status) (timer_matches l.matches j)
      (get_or l.fn.lines (j + 2) no_line)) l.fn.times;
}
