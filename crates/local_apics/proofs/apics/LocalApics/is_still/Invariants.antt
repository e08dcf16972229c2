use Rattle.std.proofs.Common.{◌≡◌, ℕ, ◌<◌, get_or}
use Rattle.std.specs.Int.{bit_at}
use Rattle.local_apics.specs.Places.{no_tsc, timer_at}
use Rattle.local_apics.specs.Nanosecond.{tscs_of, tsc_in}
use Rattle.local_apics.specs.private.Span.{length_of}
use Rattle.local_apics.specs.private.Stretch.{IsStill}
use Rattle.local_apics.proofs.apics.LocalApics.is_still.Given as goal

-- a deadline whose bit is gone was found far off
abbrev pub invariant-loop-rest : goal.invariant-loop-rest
invariant-loop-rest l = (k : ℕ) → k < 64 → bit_at l.rest k ≡ 0 → ((timer_at k l.self).deadline ≡ 0 → ⊥)
    → IsStill (tsc_in l.span.clock (get_or (tscs_of l.processors) k no_tsc)) l.span.from (length_of l.span) (timer_at k l.self)

abbrev pub decreases-loop-rest : goal.decreases-loop-rest
decreases-loop-rest l = l.rest
