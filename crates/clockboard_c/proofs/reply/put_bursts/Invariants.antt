use Rattle.std.proofs.Common.{◌≡◌, ℕ, ◌<◌, length, slice_index_or}
use Rattle.irq_edges.specs.declared.bursts.TheConstants.{BURST_PLACES}
use Rattle.clockboard_c.specs.Replies.{burst_words, no_burst, AreKept}
use Rattle.clockboard_c.proofs.reply.put_bursts.Given as goal

-- the bursts up to here are in their places
abbrev pub invariant-loop-k : goal.invariant-loop-k
invariant-loop-k l =
    (length l.places ≡ BURST_PLACES)
    × ((j : ℕ) → j < l.k → slice_index_or l.places j (burst_words no_burst) ≡ burst_words (slice_index_or l.bursts j no_burst))
    × AreKept (burst_words no_burst) l.k l.fn.places l.places
