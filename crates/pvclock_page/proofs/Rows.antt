-- Small rows that pin the definitions.
use Rattle.std.proofs.Common.{◌≡◌, [], ◌∷◌, true, false, pos, negsuc, map, refl, arith}
use Rattle.pvclock_page.specs.declared.page.Page.{Page}
use Rattle.pvclock_page.specs.Scale.{IsScale, mul_at, mul_for, shift_for}
use Rattle.pvclock_page.specs.Reading.{reading_of, whole_reading, ticks_since, shifted, parts_of, slack, IsNear}
use Rattle.pvclock_page.specs.Publish.{published}
use Rattle.pvclock_page.specs.Words.{words_of, page_of}
use Rattle.pvclock_page.specs.Guest.{guest_bytes}

-- the shift goes down by one after each doubling of 125 MHz; 2 GHz wants none, and a tick more shifts right
shifts : map shift_for
    (100000000 ∷ 125000001 ∷ 250000001 ∷ 500000001 ∷ 1000000001 ∷ 2000000000 ∷ 2000000001 ∷ 4000000001 ∷ 8000000001 ∷ [])
    ≡ pos 4 ∷ pos 3 ∷ pos 2 ∷ pos 1 ∷ pos 0 ∷ pos 0 ∷ negsuc 0 ∷ negsuc 1 ∷ negsuc 2 ∷ []
unfolding shift_for
shifts = refl

-- 2 GHz multiplies by a half, and a fraction is rounded down
multipliers : mul_for 2000000000 ∷ mul_at 3000000000 (negsuc 0) ∷ [] ≡ 2147483648 ∷ 2863311530 ∷ []
unfolding mul_for shift_for
multipliers = refl

-- at 1 GHz a shift of 0 would want a 33rd bit, and one of 2 leaves the highest bit 0
too_wide : IsScale 1000000000 4294967296 (pos 0) → ⊥
too_wide scale = omega (arith, scale.most)

too_narrow : IsScale 1000000000 1073741824 (pos 2) → ⊥
too_narrow scale = omega (arith, scale.least)

-- ticks are those of a TSC that is ahead by less than 2^63; one that is behind, or ahead by more, gives none
ticks : map (ticks_since 5) (4 ∷ 9223372036854775812 ∷ 9223372036854775813 ∷ []) ≡ 0 ∷ 9223372036854775807 ∷ 0 ∷ []
ticks = refl

a_right_shift_drops_ticks : shifted (negsuc 1) 7 ≡ 1
a_right_shift_drops_ticks = refl

-- the page of a guest of 2 GHz after a stop
abbrev after_a_stop : Page
after_a_stop = record {
  version = 4;
  tsc_timestamp = 2000004000;
  system_time = 1000002000;
  mul = 2147483648;
  shift = pos 0;
  flags = 3;
  offset = 4000;
  enabled = true;
}

-- it reads on after its own TSC, and before it its own time
readings : map (reading_of after_a_stop) (2000006000 ∷ 2000003999 ∷ []) ≡ 1000003000 ∷ 1000002000 ∷ []
unfolding reading_of
readings = refl

-- at 3 GHz seven ticks are 2.33 ns, and the page gives 1
right_shift_costs_more_than_one : whole_reading (record after_a_stop { tsc_timestamp = 0; system_time = 0; mul = 2863311530; shift = negsuc 0 }) 7 ≡ 1
right_shift_costs_more_than_one = refl

words_in_order : words_of after_a_stop ≡ 4 ∷ 2000004000 ∷ 1000002000 ∷ 284775659077632 ∷ 4000 ∷ []
words_in_order = refl

-- a page of zeros
abbrev zeros : Page
zeros = record { version = 0; tsc_timestamp = 0; system_time = 0; mul = 0; shift = pos 0; flags = 0; offset = 0; enabled = false }

-- the fourth word: a shift of -1 is ff; of the flags and whether the page is enabled, bits 40 and 48 alone and not bits 49 and on
scale_words : map (λ w. page_of (0 ∷ 0 ∷ 0 ∷ w ∷ 0 ∷ [])) (1095216660481 ∷ 0xfffd_0300_0000_0000 ∷ [])
    ≡ record zeros { mul = 1; shift = negsuc 0 } ∷ record zeros { flags = 3; enabled = true } ∷ []
scale_words = refl

-- each field of the guest's page in its place, the lowest byte first, and padding of 0
bytes_of_a_page : guest_bytes (record after_a_stop { version = 6; tsc_timestamp = 500; system_time = 1000; mul = 0xaaaa_aaaa; shift = negsuc 0 })
    ≡ 6 ∷ 0 ∷ 0 ∷ 0 ∷ 0 ∷ 0 ∷ 0 ∷ 0 ∷ 244 ∷ 1 ∷ 0 ∷ 0 ∷ 0 ∷ 0 ∷ 0 ∷ 0 ∷ 232 ∷ 3 ∷ 0 ∷ 0 ∷ 0 ∷ 0 ∷ 0 ∷ 0
    ∷ 170 ∷ 170 ∷ 170 ∷ 170 ∷ 255 ∷ 3 ∷ 0 ∷ 0 ∷ []
bytes_of_a_page = refl

-- a page is published over version 2, for a guest of 2 GHz
published_over_2 : published 2
    (record { guest_khz = 2000000; tsc = 2000004000; system_time = 1000002000; flags = 3; offset = 4000; enabled = true }) ≡ after_a_stop
unfolding mul_for shift_for
published_over_2 = refl

-- the slack is 1 ns, and 3/2 ns where ticks are shifted to the right by 1: then it is counted in halves
slacks : map slack (pos 4 ∷ negsuc 0 ∷ []) ≡ 1 ∷ 3 ∷ []
slacks = refl

halves_of_a_nanosecond : parts_of (negsuc 0) ≡ 2
halves_of_a_nanosecond = refl

-- seven ticks at 3 GHz may read as 1, not as 0, and not as 3
seven_ticks_are_near_one : IsNear 3000000000 7 (negsuc 0) 1
seven_ticks_are_near_one = record { not_ahead = omega arith; behind = omega arith }

seven_ticks_are_not_near_none : IsNear 3000000000 7 (negsuc 0) 0 → ⊥
seven_ticks_are_not_near_none near = omega (arith, near.behind)

seven_ticks_are_not_three : IsNear 3000000000 7 (negsuc 0) 3 → ⊥
seven_ticks_are_not_three near = omega (arith, near.not_ahead)
