use Rattle.std.proofs.Common.{◌≡◌, ℕ, ◌+◌, ◌<◌, ◌≤◌, get_or, length}
use Rattle.hpet_registers.specs.Parts.{is_legacy}
use Rattle.board_devices.specs.Act.{acks, acked_where, down_where}
use Rattle.board_devices.specs.Places.{each, no_line}
use Rattle.board_devices.specs.private.Acks.{timer_acks, shown_by}
use Rattle.board_devices.proofs.acks.ack_timers.Given as goal

abbrev pub invariant-loop-k : goal.invariant-loop-k
invariant-loop-k l = record {
  places : length l.ticks ≡ 10;
  front : (j : ℕ) → j < 2 → get_or l.ticks j no_line ≡ get_or l.fn.ticks j no_line;
  done : (j : ℕ) → j < l.k → get_or l.ticks (j + 2) no_line ≡ acked_where (timer_acks l.line l.h j) (get_or l.fn.ticks (j + 2) no_line);
  rest : (j : ℕ) → l.k + 2 ≤ j → get_or l.ticks j no_line ≡ get_or l.fn.ticks j no_line;
  before : l.levels.before ≡ shown_by (is_legacy l.h) l.line l.k l.h l.fn.ticks;
  between : l.levels.between ≡ shown_by (is_legacy l.h) l.line l.k l.h (each (λ i t. down_where (acks l.line l.h i) t) 0 l.fn.ticks);
  after : l.levels.after ≡ shown_by (is_legacy l.h) l.line l.k l.h (each (λ i t. acked_where (acks l.line l.h i) t) 0 l.fn.ticks);
}
