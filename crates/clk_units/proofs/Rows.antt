-- Tables that pin the definitions: the first pulses of the 8254's clock, and of one that pulses each nanosecond.
use Rattle.std.proofs.Common.{◌≡◌, ◌^◌, true, false, Some, None, map, [], ◌∷◌, refl, arith}
use Rattle.clk_units.specs.declared.ranges.TheConstants.{RANGE_NS}
use Rattle.clk_units.specs.Bits.{bit, bit_value}
use Rattle.clk_units.specs.Ranges.{IsKhz}
use Rattle.clk_units.specs.Pulses.{pulses_by, falls_at, falls_up_to, pulses_from, time_of}
use Rattle.clk_units.specs.Events.{IsFirst, first_more, first_at}

-- the first pulse falls at nanosecond 839
falls : map (falls_at 1193182) (838 ∷ 839 ∷ 840 ∷ []) ≡ false ∷ true ∷ false ∷ []
unfolding falls_at pulses_by
falls = refl

-- pulses up to a nanosecond
fallen : falls_up_to 1000000000 5 ∷ falls_up_to 1193182 1677 ∷ [] ≡ 5 ∷ 2 ∷ []
unfolding falls_at pulses_by
fallen = refl

time_of_fifth : time_of 1193182 5 ≡ 4191
unfolding time_of
time_of_fifth = refl

between : pulses_from 1193182 838 839 ≡ 2
unfolding pulses_from pulses_by
between = refl

-- the first event after nanosecond 838, with the second pulse from there, or with none
events : map (first_at 1193182 838) (Some 2 ∷ None ∷ []) ≡ Some 1677 ∷ None ∷ []
unfolding time_of pulses_by
events = refl

-- one step more: its event comes first only where none came before
first_events : first_more None 4 true ∷ first_more (Some 2) 4 true ∷ first_more None 4 false ∷ [] ≡ Some 5 ∷ Some 2 ∷ None ∷ []
first_events = refl

-- step 0 brings no event
not_before_the_first_step : IsFirst (λ n. 1) 3 (Some 0) → ⊥
not_before_the_first_step first = omega arith

-- the lowest bit, one that is 0, and the highest
bits : bit 0 5 ∷ bit 1 5 ∷ bit 63 0x8000_0000_0000_0000 ∷ [] ≡ true ∷ false ∷ true ∷ []
bits = refl

bit_values : map (λ b. bit_value b 5) (true ∷ false ∷ []) ≡ 0x20 ∷ 0 ∷ []
bit_values = refl

range : RANGE_NS ≡ 2 ^ 59
range = refl

slowest : IsKhz 100000
slowest = record { slow = omega arith; fast = omega arith }

fastest : IsKhz 10000000
fastest = record { slow = omega arith; fast = omega arith }

too_slow : IsKhz 99999 → ⊥
too_slow rate = omega arith

too_fast : IsKhz 10000001 → ⊥
too_fast rate = omega arith
