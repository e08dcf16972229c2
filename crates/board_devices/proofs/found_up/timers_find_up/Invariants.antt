use Rattle.std.proofs.Common.{◌≡◌, ℕ, ◌+◌, ◌<◌, true, false, get_or}
use Rattle.hpet_comparator.specs.Parts.{is_level}
use Rattle.hpet_registers.specs.Parts.{timer_at}
use Rattle.hpet_registers.specs.Outputs.{has_ticks}
use Rattle.hpet_registers.specs.Stretch.{timer_matches}
use Rattle.board_devices.specs.Places.{no_line}
use Rattle.board_devices.proofs.found_up.timers_find_up.Given as goal

abbrev pub invariant-loop-k : goal.invariant-loop-k
invariant-loop-k l = record {
  edge : (j : ℕ) → j < l.k → 0 < (timer_matches l.matches j).count → is_level (timer_at j l.h) ≡ false;
  timers : (j : ℕ) → j < l.k → 0 < (timer_matches l.matches j).count → has_ticks j l.h ≡ true → (get_or l.lines (j + 2) no_line).up ≡ true;
}
