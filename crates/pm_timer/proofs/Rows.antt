-- Small rows that pin the definitions.
use Rattle.std.proofs.Common.{◌≡◌, ℕ, ◌^◌, Bool, true, false, Some, None, map, [], ◌∷◌, refl, arith, lit<}
use Rattle.std.proofs.lemmas.Bool.{true≢false, false≢true}
use Rattle.clk_units.specs.Pulses.{time_of}
use Rattle.pm_timer.specs.declared.timer.TheConstants.{PM_HZ}
use Rattle.pm_timer.specs.declared.parts.PmParts.{PmParts}
use Rattle.pm_timer.specs.Parts.{is_pm_bits, IsPmTimer, pm_at_power_on}
use Rattle.pm_timer.specs.Stretch.{pm_count_next, top_bit, top_changes, pm_pulsed, pm_pulsed_times, line_9_up, pm_rises_next, pm_rises_in, first_within}
use Rattle.pm_timer.specs.Registers.{is_pm_width, pm_block, pm_read, pm_placed, status_written, enable_written, pm_written, pm_reset}

-- a timer with these fields
abbrev timer : ℕ → ℕ → Bool → Bool → PmParts
timer bits count status enable = record { bits = bits; count = count; status = status; enable = enable }

-- a count goes up, and on from 0 after its last value
counts : map pm_count_next (timer 24 0xfffffe true true ∷ timer 24 0xffffff true true ∷ timer 32 0xffffff true true ∷ timer 32 0xffffffff true true ∷ [])
    ≡ 0xffffff ∷ 0 ∷ 0x1000000 ∷ 0 ∷ []
counts = refl

-- the most significant bit is bit 23 of a count of 24 bits, and bit 31 of one of 32
top_bits : map (top_bit (timer 24 0 false false)) (0x7fffff ∷ 0x800000 ∷ 0xffffff ∷ []) ≡ false ∷ true ∷ true ∷ []
top_bits = refl

top_bits_of_32 : map (top_bit (timer 32 0 false false)) (0x800000 ∷ 0x7fffffff ∷ 0x80000000 ∷ []) ≡ false ∷ false ∷ true ∷ []
top_bits_of_32 = refl

-- it changes in the middle of the count and at its end, and nowhere else
changes : map (λ c. top_changes (timer 24 c false false)) (0 ∷ 0x7ffffe ∷ 0x7fffff ∷ 0x800000 ∷ 0xfffffe ∷ 0xffffff ∷ [])
    ≡ false ∷ false ∷ true ∷ false ∷ false ∷ true ∷ []
changes = refl

-- a pulse sets STATUS where the most significant bit becomes 1, and where it becomes 0; no other pulse sets or clears it
pulses : map pm_pulsed (timer 24 0x7ffffe false true ∷ timer 24 0x7fffff false true ∷ timer 24 0x800000 true false ∷ timer 24 0xffffff false false ∷ [])
    ≡ timer 24 0x7fffff false true ∷ timer 24 0x800000 true true ∷ timer 24 0x800001 true false ∷ timer 24 0 true false ∷ []
unfolding pm_pulsed
pulses = refl

-- the bits 23 and 24 of a count of 32 bits set nothing
pulses_of_32 : map (λ c. pm_pulsed (timer 32 c false true)) (0x7fffff ∷ 0xffffff ∷ 0x7fffffff ∷ 0xffffffff ∷ [])
    ≡ timer 32 0x800000 false true ∷ timer 32 0x1000000 false true ∷ timer 32 0x80000000 true true ∷ timer 32 0 true true ∷ []
unfolding pm_pulsed
pulses_of_32 = refl

-- without a timer a pulse changes nothing
no_pulse : map pm_pulsed (timer 0 0 false false ∷ timer 0 5 true true ∷ []) ≡ timer 0 0 false false ∷ timer 0 5 true true ∷ []
unfolding pm_pulsed
no_pulse = refl

three_pulses : pm_pulsed_times 3 (timer 24 0x7ffffe false true) ≡ timer 24 0x800001 true true
unfolding pm_pulsed
three_pulses = refl

-- STATUS and ENABLE raise the line together, and neither alone
lines : line_9_up (timer 24 0 false false) ∷ line_9_up (timer 24 0 false true) ∷ line_9_up (timer 24 0 true false) ∷ line_9_up (timer 24 0 true true) ∷ []
    ≡ false ∷ false ∷ false ∷ true ∷ []
lines = refl

-- it rises at a change with ENABLE set, where STATUS wasn't set before
rises_next : map pm_rises_next (timer 24 0x7fffff false true ∷ timer 24 0x7ffffe false true ∷ timer 24 0x7fffff false false ∷ timer 24 0x7fffff true true ∷ [])
    ≡ true ∷ false ∷ false ∷ false ∷ []
unfolding pm_rises_next pm_pulsed
rises_next = refl

rises : map (pm_rises_in (timer 24 0x7ffffd false true)) (0 ∷ 2 ∷ 3 ∷ 9 ∷ []) ≡ 0 ∷ 0 ∷ 1 ∷ 1 ∷ []
unfolding pm_rises_next pm_pulsed
rises = refl

first_pulses : first_within 3 (Some 3) ∷ first_within 3 (Some 4) ∷ first_within 3 None ∷ [] ≡ Some 3 ∷ None ∷ None ∷ []
first_pulses = refl

rate : PM_HZ ≡ 3579545
rate = refl

-- so STATUS is set every 2.34 seconds with 24 bits, and every 10 minutes with 32
times_of_a_change : map (time_of PM_HZ) (2 ^ 23 ∷ 2 ^ 31 ∷ []) ≡ 2343484438 ∷ 599932015941 ∷ []
unfolding time_of
times_of_a_change = refl

-- the block: STATUS at bit 0, ENABLE at bit 16, the count from bit 64 on
blocks : map pm_block (timer 32 0 true false ∷ timer 32 0 false true ∷ timer 32 0x12345678 false false ∷ timer 32 0x12345678 true true ∷ [])
    ≡ 1 ∷ 0x10000 ∷ 0x123456780000000000000000 ∷ 0x123456780000000000010001 ∷ []
blocks = refl

-- reads of each width at its usual place, of all other bytes, and across them at any alignment; nothing past the block
reads_of_1 : map (λ k. pm_read k 1 (timer 32 0x12345678 true true)) (0 ∷ 1 ∷ 2 ∷ 3 ∷ 4 ∷ 7 ∷ 8 ∷ 9 ∷ 10 ∷ 11 ∷ 12 ∷ [])
    ≡ 1 ∷ 0 ∷ 1 ∷ 0 ∷ 0 ∷ 0 ∷ 0x78 ∷ 0x56 ∷ 0x34 ∷ 0x12 ∷ 0 ∷ []
unfolding pm_read
reads_of_1 = refl

reads_of_2 : map (λ k. pm_read k 2 (timer 32 0x12345678 true true)) (0 ∷ 1 ∷ 2 ∷ 4 ∷ 7 ∷ 8 ∷ 10 ∷ 11 ∷ 12 ∷ [])
    ≡ 1 ∷ 0x100 ∷ 1 ∷ 0 ∷ 0x7800 ∷ 0x5678 ∷ 0x1234 ∷ 0x12 ∷ 0 ∷ []
unfolding pm_read
reads_of_2 = refl

reads_of_4 : map (λ k. pm_read k 4 (timer 32 0x12345678 true true)) (0 ∷ 1 ∷ 2 ∷ 4 ∷ 6 ∷ 8 ∷ 9 ∷ 11 ∷ 200 ∷ [])
    ≡ 0x10001 ∷ 0x100 ∷ 1 ∷ 0 ∷ 0x56780000 ∷ 0x12345678 ∷ 0x123456 ∷ 0x12 ∷ 0 ∷ []
unfolding pm_read
reads_of_4 = refl

widths : map is_pm_width (0 ∷ 1 ∷ 2 ∷ 3 ∷ 4 ∷ 5 ∷ 8 ∷ []) ≡ false ∷ true ∷ true ∷ false ∷ true ∷ false ∷ false ∷ []
widths = refl

places : pm_placed 0 0xab ∷ pm_placed 1 0xab ∷ pm_placed 11 1 ∷ [] ≡ 0xab ∷ 0xab00 ∷ 2 ^ 88 ∷ []
places = refl

-- a written 1 at bit 0 clears STATUS; other written bits and other bytes leave it, and none sets it
status_writes : map (λ v. status_written 0 v (timer 24 0 true true)) (0 ∷ 1 ∷ 0xfffe ∷ 0xffff ∷ []) ≡ true ∷ false ∷ true ∷ false ∷ []
status_writes = refl

status_stays : map (λ k. status_written k 0xffffffff (timer 24 0 true true)) (1 ∷ 2 ∷ 8 ∷ []) ≡ true ∷ true ∷ true ∷ []
status_stays = refl

no_status_by_a_write : map (λ v. status_written 0 v (timer 24 0 false true)) (0 ∷ 1 ∷ []) ≡ false ∷ false ∷ []
no_status_by_a_write = refl

-- ENABLE becomes what is written over it, where byte 2 is written ..
enable_on : enable_written 0 4 0x10000 (timer 24 0 true false) ∷ enable_written 1 2 0x100 (timer 24 0 true false)
    ∷ enable_written 1 4 0x100 (timer 24 0 true false) ∷ enable_written 2 1 1 (timer 24 0 true false) ∷ enable_written 2 2 0x8001 (timer 24 0 true false) ∷ []
    ≡ true ∷ true ∷ true ∷ true ∷ true ∷ []
enable_on = refl

enable_off : enable_written 0 4 0xfffeffff (timer 24 0 true true) ∷ enable_written 1 2 0xfeff (timer 24 0 true true)
    ∷ enable_written 2 1 0xfe (timer 24 0 true true) ∷ enable_written 2 4 0xfffffffe (timer 24 0 true true) ∷ []
    ≡ false ∷ false ∷ false ∷ false ∷ []
enable_off = refl

-- .. and stays elsewhere
enable_stays : map (enable_written 0 2 0xffff) (timer 24 0 true false ∷ timer 24 0 true true ∷ []) ∷ map (enable_written 1 1 0) (timer 24 0 true true ∷ [])
    ∷ map (enable_written 3 4 0) (timer 24 0 true true ∷ []) ∷ map (enable_written 3 1 1) (timer 24 0 true false ∷ []) ∷ []
    ≡ (false ∷ true ∷ []) ∷ (true ∷ []) ∷ (true ∷ []) ∷ (false ∷ []) ∷ []
enable_stays = refl

-- one write may do both; none changes the count; without a timer none changes anything
writes : pm_written 0 4 0x10001 (timer 24 7 true false) ∷ pm_written 8 4 0xffffffff (timer 32 7 true true) ∷ pm_written 0 4 0x10001 (timer 0 0 false false)
    ∷ pm_written 0 4 0x10001 (timer 0 5 true false) ∷ []
    ≡ timer 24 7 false true ∷ timer 32 7 true true ∷ timer 0 0 false false ∷ timer 0 5 true false ∷ []
unfolding pm_written
writes = refl

-- a reset clears STATUS and ENABLE alone
reset : map pm_reset (timer 24 7 true true ∷ timer 32 9 true false ∷ []) ≡ timer 24 7 false false ∷ timer 32 9 false false ∷ []
reset = refl

power_on : pm_at_power_on 24 7 ∷ pm_at_power_on 0 0 ∷ [] ≡ timer 24 7 false false ∷ timer 0 0 false false ∷ []
power_on = refl

widths_of_a_count : map is_pm_bits (0 ∷ 1 ∷ 16 ∷ 23 ∷ 24 ∷ 25 ∷ 32 ∷ 64 ∷ []) ≡ true ∷ false ∷ false ∷ false ∷ true ∷ false ∷ true ∷ false ∷ []
widths_of_a_count = refl

-- the last count of each width is a timer's, and so is no timer
last_of_24 : IsPmTimer (timer 24 0xffffff true true)
last_of_24 = record { bits = refl; count = lit< tt; no_status = λ none. absurd (omega (arith, none)); no_enable = λ none. absurd (omega (arith, none)) }

last_of_32 : IsPmTimer (timer 32 0xffffffff true true)
last_of_32 = record { bits = refl; count = lit< tt; no_status = λ none. absurd (omega (arith, none)); no_enable = λ none. absurd (omega (arith, none)) }

no_timer : IsPmTimer (timer 0 0 false false)
no_timer = record { bits = refl; count = lit< tt; no_status = λ none. refl; no_enable = λ none. refl }

-- what each condition on the fields refuses
no_count_of_16_bits : IsPmTimer (timer 16 0 false false) → ⊥
no_count_of_16_bits h = false≢true h.bits

no_count_of_25_bits : IsPmTimer (timer 24 0x1000000 false false) → ⊥
no_count_of_25_bits h = omega (arith, h.count)

no_count_of_33_bits : IsPmTimer (timer 32 0x100000000 false false) → ⊥
no_count_of_33_bits h = omega (arith, h.count)

no_count_without_a_timer : IsPmTimer (timer 0 1 false false) → ⊥
no_count_without_a_timer h = omega (arith, h.count)

no_status_without_a_timer : IsPmTimer (timer 0 0 true false) → ⊥
no_status_without_a_timer h = true≢false (h.no_status refl)

no_enable_without_a_timer : IsPmTimer (timer 0 0 false true) → ⊥
no_enable_without_a_timer h = true≢false (h.no_enable refl)
