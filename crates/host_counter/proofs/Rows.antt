-- Small rows that pin the definitions of a time and of a fault.
use Rattle.std.proofs.Common.{◌≡◌, ◌+◌, ◌-◌, [], ◌∷◌, map, Some, None, refl, arith}
use Rattle.clk_units.specs.declared.ranges.TheConstants.{RANGE_NS}
use Rattle.host_counter.specs.declared.Anchor.{Anchor}
use Rattle.host_counter.specs.declared.TimeFault.TheVariants.{BeforeStart, OutOfRange}
use Rattle.host_counter.specs.Time.{time_at, time_fault, HasTime, set_anew, IsTimeAt, IsJustBehind}

-- a counter of 1 GHz, whose counts are nanoseconds
abbrev plain : Anchor
plain = record { khz = 1000000; start = 0; base_ns = 0 }

-- the same from count 500 on
abbrev later : Anchor
later = record { khz = 1000000; start = 500; base_ns = 7 }

-- one of 10 GHz, ten counts of which are a nanosecond
abbrev fast : Anchor
fast = record { khz = 10000000; start = 500; base_ns = 7 }

-- a count is 10 ns at 100 MHz; a time is rounded down, and what is lost by that is lost again where the clock is set anew: 5
-- and 5 counts are no nanosecond, 10 are one
times : time_at (record { khz = 100000; start = 0; base_ns = 0 }) 1 ∷ time_at fast 509 ∷ time_at fast 510 ∷ time_at (set_anew fast 505 7) 510 ∷ []
    ≡ 10 ∷ 7 ∷ 8 ∷ 7 ∷ []
unfolding time_at
times = refl

-- the last time in range, and the first past it
last_time : IsTimeAt plain (RANGE_NS - 1) (RANGE_NS - 1)
unfolding time_at
last_time = record { started = omega arith; value = refl; in_range = omega arith }

past_the_range : IsTimeAt plain RANGE_NS RANGE_NS → ⊥
past_the_range time = omega (arith, time.in_range)

-- the faults: a count before the anchor's, and a time past the range; a count that is both is before the anchor's
faults : map (time_fault later) (499 ∷ 500 ∷ (500 + RANGE_NS - 8) ∷ (500 + RANGE_NS - 7) ∷ [])
    ≡ Some (BeforeStart 500) ∷ None ∷ None ∷ Some (OutOfRange RANGE_NS) ∷ []
unfolding time_at
faults = refl

the_start_first : time_fault (record { khz = 1000000; start = 500; base_ns = RANGE_NS }) 499 ≡ Some (BeforeStart 500)
the_start_first = refl

has_its_time : HasTime later 500
unfolding time_at
has_its_time = record { started = omega arith; range = omega arith }

no_time_before_the_start : IsTimeAt later 499 7 → ⊥
no_time_before_the_start time = omega (arith, time.started)

not_two_behind : IsJustBehind 5 7 → ⊥
not_two_behind near = omega (arith, near.near)

not_ahead : IsJustBehind 6 5 → ⊥
not_ahead near = omega (arith, near.not_ahead)
