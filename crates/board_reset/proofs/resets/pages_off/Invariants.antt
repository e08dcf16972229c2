use Rattle.std.proofs.Common.{◌≡◌, ℕ, ◌≤◌, length, map, take, get_or}
use Rattle.board_core.specs.Tsc.{no_processor}
use Rattle.board_reset.specs.Reset.{page_off}
use Rattle.board_reset.proofs.resets.pages_off.Given as goal

-- those up to `cpu` have no page enabled, and the others are as they were
abbrev pub invariant-loop-cpu : goal.invariant-loop-cpu
invariant-loop-cpu l = record {
  long : length l.off ≡ length l.processors;
  front : take l.cpu l.off ≡ map page_off (take l.cpu l.processors);
  rest : (k : ℕ) → l.cpu ≤ k → get_or l.off k no_processor ≡ get_or l.processors k no_processor;
}
