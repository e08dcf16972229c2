use Rattle.std.proofs.Common.{◌≡◌, ℕ, ◌<◌, length, slice_index_or}
use Rattle.irq_edges.specs.declared.edges.TheConstants.{EDGE_PLACES}
use Rattle.clockboard_c.specs.Replies.{edge_words, no_edge, AreKept}
use Rattle.clockboard_c.proofs.reply.put_edges.Given as goal

-- the edges up to here are in their places
abbrev pub invariant-loop-k : goal.invariant-loop-k
invariant-loop-k l =
    (length l.places ≡ EDGE_PLACES)
    × ((j : ℕ) → j < l.k → slice_index_or l.places j (edge_words no_edge) ≡ edge_words (slice_index_or l.edges j no_edge))
    × AreKept (edge_words no_edge) l.k l.fn.places l.places
