use Rattle.std.proofs.Common.{◌≡◌, ℕ, ◌+◌, ◌<◌, get_or, None}
use Rattle.clk_units.specs.Bits.{bit}
use Rattle.hpet_registers.specs.Stretch.{timer_matches}
use Rattle.board_devices.specs.Places.{no_line}
use Rattle.board_devices.specs.private.Stretch.{timer_ticks, end_of, output_up}
use Rattle.board_devices.proofs.stretch.timers_rest.Given as goal

abbrev pub invariant-loop-k : goal.invariant-loop-k
invariant-loop-k l = record {
  still : (j : ℕ) → j < l.k → end_of l.span.point l.span.to (timer_ticks l.span.from j l.h (timer_matches l.matches j)) (get_or l.lines (j + 2) no_line)
      ≡ get_or l.lines (j + 2) no_line;
  down : (j : ℕ) → j < l.k → output_up l.span j l.h (bit j l.status) (timer_matches l.matches j) (get_or l.lines (j + 2) no_line) ≡ None;
}
