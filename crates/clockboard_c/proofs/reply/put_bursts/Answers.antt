use Rattle.std.proofs.Common.{◌≢◌, ◌<◌, length, arith, get_or-set_other, get_or-set_same, below_more, rules}
use Rattle.clockboard_c.proofs.reply.put_bursts.Goals as goal

pub loop-k-preserved : goal.loop-k-preserved
loop-k-preserved c =
    let lt : c.loop-k.k < length c.loop-k.places = omega (arith, c.loop-k.invariant.0) in (
      search rules,
      below_more _ _
          (λ j h. let ne : j ≢ c.loop-k.k = omega arith in rw get_or-set_other (c.loop-k.invariant.1 j h))
          (rw get_or-set_same c.burst_words.ensures),
      λ j h. let ne : j ≢ c.loop-k.k = omega arith in rw get_or-set_other (c.loop-k.invariant.2 j (omega arith)),
    )
