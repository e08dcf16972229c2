use Rattle.std.proofs.Common.{◌≡◌, ◌-◌}
use Rattle.hpet_bursts.specs.Next.{first_where, sends_below}
use Rattle.hpet_bursts.proofs.next.next_message.Given as goal

abbrev pub invariant-loop-k : goal.invariant-loop-k
invariant-loop-k l = l.next ≡ first_where (sends_below l.k l.fn.from l.fn.h) l.fn.from (l.fn.to - l.fn.from)
