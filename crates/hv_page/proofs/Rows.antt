-- Small rows that pin the definitions.
use Rattle.std.proofs.Common.{◌≡◌, ◌+◌, ◌*◌, ◌<◌, ℕ, List, true, false, pos, [], ◌∷◌, Some, None, map, replicate, refl, lit<}
use Rattle.hv_page.specs.declared.page.HvPage.{HvPage}
use Rattle.hv_page.specs.declared.page.HvReply.TheVariants.{Off, On}
use Rattle.hv_page.specs.Scale.{tsc_scale}
use Rattle.hv_page.specs.Time.{units_of, reference_time, reply}
use Rattle.hv_page.specs.Page.{tsc_sequence, published, withdrawn}
use Rattle.hv_page.specs.Words.{as_page}
use Rattle.hv_page.specs.Guest.{guest_bytes, guest_time}

-- 2 GHz, the fastest guest and the slowest: 2^64 / 1000 is rounded down, and so is 2^64 / 10
scales : map tsc_scale (2000000 ∷ 10000000 ∷ 100000 ∷ []) ≡ 92233720368547758 ∷ 18446744073709551 ∷ 1844674407370955161 ∷ []
unfolding tsc_scale
scales = refl

-- 2000 ticks of 2 GHz are 10 units, and the page's scale gives 9
units_are_rounded_down : units_of 92233720368547758 2000 ≡ 9
unfolding units_of
units_are_rounded_down = refl

-- the page of a guest of 2 GHz that is published at 1000 ns, and one of a TSC that runs ahead of the time: its offset is below 0
abbrev first : HvPage
first = record { version = 2; scale = 92233720368547758; offset = 1; tsc_offset = 7 }

abbrev below_zero : HvPage
below_zero = record { version = 6; scale = 92233720368547758; offset = 18446744073709551598; tsc_offset = 0 }

pages : published (record { version = 0; scale = 0; offset = 0; tsc_offset = 0 }) 2000000 7 2000 1000
    ∷ published (record { version = 4; scale = 0; offset = 0; tsc_offset = 0 }) 2000000 0 4000 199 ∷ [] ≡ first ∷ below_zero ∷ []
unfolding tsc_scale units_of
pages = refl

times : reference_time first 42000 ∷ reference_time below_zero 4200 ∷ [] ≡ 210 ∷ 2 ∷ []
unfolding units_of reference_time
times = refl

-- a page with a scale of 1
abbrev page : HvPage
page = record { version = 6; scale = 1; offset = 2; tsc_offset = 3 }

sequence_is_the_half : tsc_sequence page ≡ 3
sequence_is_the_half = refl

-- a page that was withdrawn is off, and a scale of 1 is on
replies : map (λ p. reply p 5) (withdrawn page ∷ page ∷ []) ≡ Off ∷ On page 2 ∷ []
unfolding reference_time units_of
replies = refl

-- at 3,679,601 kHz the greatest TSC is behind by 1.997 units: the bound of two is the best in whole units
behind_by_almost_two : (units_of (tsc_scale 3679601) 18446744073709551615 * 1000 + 1997) * 3679601 < 18446744073709551615 * 10000 * 1000
unfolding units_of tsc_scale
behind_by_almost_two = lit< tt

kept_in_a_pvclock_page : as_page page
    ≡ record { version = 6; tsc_timestamp = 1; system_time = 2; mul = 0; shift = pos 0; flags = 0; offset = 3; enabled = true }
kept_in_a_pvclock_page = refl

off_is_kept_off : (as_page (record { version = 6; scale = 0; offset = 0; tsc_offset = 0 })).enabled ≡ false
off_is_kept_off = refl

-- sequence, scale and offset; the third publishing withdrew the second page: the sequence is 0, and not 3
bytes : map guest_bytes (record { version = 6; scale = 92233720368547758; offset = 500; tsc_offset = 3 } ∷ withdrawn (record page { version = 4 }) ∷ [])
    ≡ (3 ∷ 0 ∷ 0 ∷ 0 ∷ 0 ∷ 0 ∷ 0 ∷ 0 ∷ 174 ∷ 71 ∷ 225 ∷ 122 ∷ 20 ∷ 174 ∷ 71 ∷ 1 ∷ 244 ∷ 1 ∷ 0 ∷ 0 ∷ 0 ∷ 0 ∷ 0 ∷ 0 ∷ []) ∷ replicate 24 0 ∷ []
bytes = refl

-- the bytes of a page of this sequence with a scale of 2^63 and an offset of 1
abbrev bytes_of : ℕ → List ℕ
bytes_of n = n ∷ 0 ∷ 0 ∷ 0 ∷ 0 ∷ 0 ∷ 0 ∷ 0 ∷ 0 ∷ 0 ∷ 0 ∷ 0 ∷ 0 ∷ 0 ∷ 0 ∷ 128 ∷ 1 ∷ 0 ∷ 0 ∷ 0 ∷ 0 ∷ 0 ∷ 0 ∷ 0 ∷ []

-- at 2^63 ticks the scale adds 2^62 units to the offset, and sequence 0 isn't valid
guest_times : guest_time (bytes_of 1) 9223372036854775808 ∷ guest_time (bytes_of 0) 5 ∷ [] ≡ Some 4611686018427387905 ∷ None ∷ []
unfolding units_of
guest_times = refl
