-- Small rows that pin the definitions.
use Rattle.std.proofs.Common.{◌≡◌, [], ◌∷◌, refl}
use Rattle.tsc_scale.specs.Ratio.{ratio_of}
use Rattle.tsc_scale.specs.Offset.{tsc_by}
use Rattle.tsc_scale.specs.Tsc.{tsc_at, difference, moved_by}

-- a ratio is rounded down, and 2^48 where the counter is as fast as the TSC
ratios : ratio_of 1000000 3000000 ∷ ratio_of 2000000 2000000 ∷ [] ≡ 93824992236885 ∷ 0x1_0000_0000_0000 ∷ []
ratios = refl

-- counts are rounded down; the TSC twice as fast as the counter; an offset that wraps
tscs : tsc_by 0 300 (ratio_of 1000000 3000000)
    ∷ tsc_at (record { offset = 7; adjust = 0 }) 1000 (ratio_of 2000000 1000000)
    ∷ tsc_at (record { offset = 18446744073709551615; adjust = 0 }) 1000 (ratio_of 1000000 1000000) ∷ []
    ≡ 99 ∷ 2007 ∷ 999 ∷ []
unfolding tsc_by
tscs = refl

below_wraps : difference 0 1000 ≡ 18446744073709550616
below_wraps = refl

both_move : moved_by (difference 0 1000) (record { offset = 1500; adjust = 400 }) ≡ record { offset = 500; adjust = 18446744073709551016 }
both_move = refl
