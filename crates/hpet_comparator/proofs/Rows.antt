-- Small rows that pin the definitions.
use Rattle.std.proofs.Common.{◌≡◌, ℕ, ◌+◌, ◌*◌, ◌^◌, true, false, Some, None, map, [], ◌∷◌, refl}
use Rattle.hpet_comparator.specs.Counter.{counter_after}
use Rattle.hpet_comparator.specs.Part.{is_register_width, part_written}
use Rattle.hpet_comparator.specs.declared.parts.TimerField.TheVariants.{Config, Comparator, Period}
use Rattle.hpet_comparator.specs.declared.parts.TimerParts.{TimerParts}
use Rattle.hpet_comparator.specs.Parts.{is_level, is_enabled, is_periodic, takes_comparator, is_32_bit, route_of, writable_bits, timer_fault, timer_at_power_on}
use Rattle.hpet_comparator.specs.Config.{config_register, config_written}
use Rattle.hpet_comparator.specs.Comparator.{comparator_written}
use Rattle.hpet_comparator.specs.Stretch.{matches_at, pulsed, matches_in, spacing_of, falls_on}

-- a timer with this configuration, comparator and period
abbrev timer : ℕ → ℕ → ℕ → TimerParts
timer config comparator period = record { config = config; comparator = comparator; period = period }

-- the main counter goes past 32 bits, and on from zero after 2^64 - 1
counts : counter_after 0 100 ∷ counter_after 0xffffffff 1 ∷ counter_after 0xffffffffffffffff 0 ∷ counter_after 0xffffffffffffffff 1 ∷ []
    ≡ 100 ∷ 0x100000000 ∷ 0xffffffffffffffff ∷ 0 ∷ []
counts = refl

-- writes of a register: whole, of its low half and of its high half
parts : part_written 8 false 0x0102030405060708 0x1111111122222222
    ∷ part_written 4 false 0x33333333 0x1111111122222222
    ∷ part_written 4 true 0x33333333 0x1111111122222222 ∷ []
    ≡ 0x0102030405060708 ∷ 0x1111111133333333 ∷ 0x3333333322222222 ∷ []
parts = refl

-- 4 and 8 bytes reach a register, and no other number
register_widths : map is_register_width (0 ∷ 1 ∷ 2 ∷ 3 ∷ 4 ∷ 5 ∷ 6 ∷ 7 ∷ 8 ∷ 9 ∷ 16 ∷ [])
    ≡ false ∷ false ∷ false ∷ false ∷ true ∷ false ∷ false ∷ false ∷ true ∷ false ∷ false ∷ []
register_widths = refl

-- a configuration as it reads, at power on and with VAL_SET
config_reads : map config_register (timer_at_power_on ∷ config_written 0x2848 timer_at_power_on ∷ []) ≡ 0x00f0000000002830 ∷ 0x00f0000000002878 ∷ []
unfolding config_written
config_reads = refl

-- writes of a configuration: a route outside 20 to 23 is left, one inside is taken, and narrow mode cuts comparator and period
config_writes : config_written 0x0004 timer_at_power_on
    ∷ config_written 0xffffffffffff2fff timer_at_power_on
    ∷ config_written 0x2900 (timer 0x2800 0x500000006 0x700000008) ∷ []
    ≡ timer 0x2804 0 0 ∷ timer 0x2f4e 0 0 ∷ timer 0x2900 6 8 ∷ []
unfolding config_written
config_writes = refl

-- whole writes of a comparator: one-shot they set comparator and period, periodic the period alone; VAL_SET makes them set
-- both and is cleared, in one-shot mode too
comparator_writes : comparator_written 8 false 100 timer_at_power_on
    ∷ map (comparator_written 8 false 10) (timer 0x2808 3 4 ∷ timer 0x2848 3 4 ∷ timer 0x2840 3 4 ∷ [])
    ≡ timer 0x2800 100 100 ∷ timer 0x2808 3 10 ∷ timer 0x2808 10 10 ∷ timer 0x2800 10 10 ∷ []
unfolding comparator_written
comparator_writes = refl

-- writes of a half keep the other half; the high half is cut in narrow mode; each half clears VAL_SET
high_half_writes : map (comparator_written 4 true 1) (timer 0x2800 3 4 ∷ timer 0x2900 3 4 ∷ timer 0x2848 3 4 ∷ [])
    ≡ timer 0x2800 0x100000003 0x100000004 ∷ timer 0x2900 3 4 ∷ timer 0x2808 0x100000003 0x100000004 ∷ []
unfolding comparator_written
high_half_writes = refl

low_half_write : comparator_written 4 false 9 (timer 0x2848 0x100000003 0x200000004) ≡ timer 0x2808 0x100000009 0x200000009
unfolding comparator_written
low_half_write = refl

-- a narrow timer sees the counter's low half, a wide one the whole
matches : map (λ c. matches_at 0x100000003 (timer c 3 4)) (0x2900 ∷ 0x2800 ∷ []) ≡ true ∷ false ∷ []
unfolding matches_at
matches = refl

-- at a match a one-shot comparator stays, and a periodic one adds its period; it wraps at 32 bits or at 64
after_a_match : pulsed 3 (timer 0x2800 3 4)
    ∷ pulsed 3 (timer 0x2808 3 4)
    ∷ pulsed 0xfffffffe (timer 0x2908 0xfffffffe 4)
    ∷ pulsed 0xfffffffffffffffe (timer 0x2808 0xfffffffffffffffe 4) ∷ []
    ≡ timer 0x2800 3 4 ∷ timer 0x2808 7 4 ∷ timer 0x2908 2 4 ∷ timer 0x2808 2 4 ∷ []
unfolding pulsed matches_at
after_a_match = refl

-- where the comparator is the counter already there is no match before a whole round; else there is one every period
periodic_matches : map (λ t. matches_in 5 t 20) (timer 0x2808 5 2 ∷ timer 0x2808 7 3 ∷ []) ≡ 0 ∷ 7 ∷ []
unfolding pulsed matches_at
periodic_matches = refl

-- across the end of 32 bits and of 64: a narrow match, a wide one, no wide one at the low half, and narrow periods
matches_across_the_wrap : matches_in 0x7fffffffe (timer 0x2904 3 3) 10
    ∷ matches_in 0xfffffffffffffffe (timer 0x2804 3 3) 10
    ∷ matches_in 0x7fffffffe (timer 0x2804 3 3) 10
    ∷ matches_in 0xfffffff0 (timer 0x290c 0xfffffff8 0x10) 45 ∷ []
    ≡ 1 ∷ 1 ∷ 0 ∷ 3 ∷ []
unfolding pulsed matches_at
matches_across_the_wrap = refl

-- matches are a period apart, or a whole round without a period and in one-shot mode
spacings : map spacing_of (timer 0x2808 7 3 ∷ timer 0x2908 7 0 ∷ timer 0x2804 7 3 ∷ timer 0x2904 7 3 ∷ []) ≡ 3 ∷ 0x100000000 ∷ 2 ^ 64 ∷ 2 ^ 32 ∷ []
spacings = refl

writable : writable_bits ≡ 2 ^ 1 + 2 ^ 2 + 2 ^ 3 + 2 ^ 6 + 2 ^ 8 + 31 * 2 ^ 9
writable = refl

-- valid timers: at power on, with all switches, and of 64 bits
valid : map timer_fault (timer_at_power_on ∷ timer 0x2f4e 0xffffffff 0xffffffff ∷ timer 0x2800 0xffffffffffffffff 0xffffffffffffffff ∷ [])
    ≡ None ∷ None ∷ None ∷ []
valid = refl

-- the conditions, one after the other: each bit that isn't writable ..
bits_that_are_not_writable : map (λ b. timer_fault (timer (0x2800 + b) 0 0)) (0x0001 ∷ 0x0010 ∷ 0x0020 ∷ 0x0080 ∷ 0x4000 ∷ 0x8000 ∷ [])
    ≡ Some Config ∷ Some Config ∷ Some Config ∷ Some Config ∷ Some Config ∷ Some Config ∷ []
bits_that_are_not_writable = refl

-- .. routes outside 20 to 23 ..
routes : map (λ r. timer_fault (timer (r * 2 ^ 9) 0 0)) (0 ∷ 19 ∷ 20 ∷ 23 ∷ 24 ∷ 31 ∷ [])
    ≡ Some Config ∷ Some Config ∷ None ∷ None ∷ Some Config ∷ Some Config ∷ []
routes = refl

-- .. and comparator and period in the timer's width
widths : map timer_fault (timer 0x2900 0x100000000 0 ∷ timer 0x2900 0 0x100000000 ∷ timer 0x2800 0x10000000000000000 0 ∷ [])
    ≡ Some Comparator ∷ Some Period ∷ Some Comparator ∷ []
widths = refl

-- of two faults the first
first_faults : map (λ c. timer_fault (timer c 0x100000000 0x100000000)) (0x0900 ∷ 0x2900 ∷ []) ≡ Some Config ∷ Some Comparator ∷ []
first_faults = refl

-- what each bit of a configuration says: alone, and with all others without it
each_bit : is_level (timer 0x2802 0 0) ∷ is_enabled (timer 0x2804 0 0) ∷ is_periodic (timer 0x2808 0 0) ∷ takes_comparator (timer 0x2840 0 0)
    ∷ is_32_bit (timer 0x2900 0 0) ∷ [] ≡ true ∷ true ∷ true ∷ true ∷ true ∷ []
each_bit = refl

all_others : is_level (timer 0x2f4c 0 0) ∷ is_enabled (timer 0x2f4a 0 0) ∷ is_periodic (timer 0x2f46 0 0) ∷ takes_comparator (timer 0x2f0e 0 0)
    ∷ is_32_bit (timer 0x2e4e 0 0) ∷ [] ≡ false ∷ false ∷ false ∷ false ∷ false ∷ []
all_others = refl

route_bits : map route_of (0x2800 ∷ 0x2f4e ∷ 0xc1ff ∷ []) ≡ 20 ∷ 23 ∷ 0 ∷ []
route_bits = refl

-- three matches from pulse 2 on, each 5 pulses after the last
falls : map (falls_on (Some 2) 3 5) (0 ∷ 1 ∷ 2 ∷ 3 ∷ 6 ∷ 7 ∷ 8 ∷ 11 ∷ 12 ∷ 13 ∷ 17 ∷ [])
    ≡ false ∷ false ∷ true ∷ false ∷ false ∷ true ∷ false ∷ false ∷ true ∷ false ∷ false ∷ []
falls = refl

none_falls : map (falls_on None 0 5) (0 ∷ 1 ∷ 5 ∷ []) ≡ false ∷ false ∷ false ∷ []
none_falls = refl
