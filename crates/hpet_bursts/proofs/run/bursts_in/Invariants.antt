use Rattle.std.proofs.Common.{◌≡◌, ℕ, ◌-◌, ◌<◌}
use Rattle.hpet_bursts.specs.Messages.{message_times}
use Rattle.hpet_bursts.specs.Bursts.{IsBurst, burst_in, bursts_below}
use Rattle.hpet_bursts.proofs.run.bursts_in.Given as goal

abbrev pub invariant-loop-k : goal.invariant-loop-k
invariant-loop-k l = record {
  bursts : l.bursts ≡ bursts_below l.k l.fn.from (l.fn.to - l.fn.from) l.fn.h;
  each : (j : ℕ) → j < l.k
      → IsBurst j l.fn.h (message_times j l.fn.from (l.fn.to - l.fn.from) l.fn.h) (burst_in j l.fn.from (l.fn.to - l.fn.from) l.fn.h);
}
