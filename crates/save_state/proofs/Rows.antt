-- Rows on the definitions: examples of a saved state in each version, one fault of each kind and field, and upgrades.
use Rattle.std.proofs.Common.{◌≡◌, ℕ, true, List, [], ◌∷◌, ◌++◌, length, map, take, drop, replicate, set, Option, Some, None, refl}
use Rattle.pit_counter.specs.Parts.{bits_valid, flags_valid, cr_valid, ce_valid, part_valid, read_order_valid, latched_count_valid, latched_status_valid}
use Rattle.byte_table.specs.Codes.{number_at, number_bytes, row_bytes, row_value, row_spelled}
use Rattle.save_state.specs.declared.fault.StateKind.TheVariants.{Short, Magic, Version, Field, Trailing}
use Rattle.{host_counter.specs.Time.time_at, pit_counter.specs.Count.modulus, pit_counter.specs.Mode.mode_of, pit_counter.specs.Mode.access_of}
use Rattle.{pit_counter.specs.Mode.is_bcd, pit_counter.specs.Programming.programmed, rtc_registers.specs.Parts.rtc_at_power_on}
use Rattle.{rtc_registers.specs.Registers.with_time, pvclock_page.specs.Scale.mul_for, pvclock_page.specs.Scale.shift_for, lapic_timer.specs.Parts.divisor}
use Rattle.{hv_page.specs.Scale.tsc_scale, tick_policy.specs.declared.parts.Policy.TheVariants.Delay, board_types.specs.declared.parts.BoardParts.BoardParts}
use Rattle.{board_types.specs.Setup.setup_by_default, board_devices.specs.Lines.levels, board_devices.specs.Parts.devices_upgraded}
use Rattle.{board_core.specs.PowerOn.board_at_power_on, board_core.specs.Upgrade.upgraded_to, save_state.specs.declared.fault.StateFault.StateFault}
use Rattle.{save_state.specs.Reading.board_in, save_state.specs.Table.fault_of, save_state.specs.Writing.bytes_of, save_state.proofs.Formats.all_fields}

-- what rows compute with
unfoldable opened : ℕ
unfolding all_fields number_at number_bytes row_bytes row_value row_spelled fault_of bytes_of bits_valid flags_valid cr_valid ce_valid part_valid
    read_order_valid latched_count_valid latched_status_valid programmed modulus mode_of access_of is_bcd levels time_at mul_for shift_for divisor tsc_scale
    rtc_at_power_on with_time upgraded_to devices_upgraded
opened = 0

-- the bytes of a board, the fault of bytes and their board, computed
unfoldable spelled : BoardParts → List ℕ
unfolding opened
spelled b = bytes_of b

unfoldable fault : List ℕ → Option StateFault
unfolding opened
fault bytes = fault_of bytes

unfoldable read : List ℕ → BoardParts
unfolding opened
read bytes = board_in bytes

-- bytes whose first fault is a field at a place; and of which one is set, each time: its place, its value, and the place of the field at fault
abbrev Faulty : List ℕ → ℕ → Type 0
Faulty bytes place = fault bytes ≡ Some (record { place = place; kind = Field })

abbrev FaultsBy : List ℕ → List (ℕ × ℕ × ℕ) → Type 0
FaultsBy bytes cases =
    map (λ (c : ℕ × ℕ × ℕ). fault (set bytes c.0 c.1)) cases ≡ map (λ (c : ℕ × ℕ × ℕ). Some (record { place = c.2; kind = Field })) cases

-- a board at power on, after one access that did nothing
abbrev board_of : ℕ → BoardParts
board_of format = record (board_at_power_on (setup_by_default format)) { accesses = 1 }

unfoldable example : List ℕ
unfolding spelled
example = spelled (board_of 1)

example-bytes : (length example ≡ 553) × (drop 503 example ≡ replicate 50 0)
unfolding example
example-bytes = (refl, refl)

example-head : take 79 example
    ≡ 67 ∷ 76 ∷ 75 ∷ 66 ∷ 79 ∷ 65 ∷ 82 ∷ 68 ∷ 1 ∷ 0 ∷ 1 ∷ 0 ∷ 64 ∷ 66 ∷ 15 ∷ 0 ∷ 0 ∷ 0 ∷ 0 ∷ 0 ∷ 0 ∷ 0 ∷ 0 ∷ 0 ∷ 0 ∷ 0 ∷ 0 ∷ 0 ∷ 0 ∷ 0 ∷ 0
    ∷ 0 ∷ 0 ∷ 0 ∷ 0 ∷ 0 ∷ 0 ∷ 0 ∷ 0 ∷ 0 ∷ 0 ∷ 0 ∷ 0 ∷ 0 ∷ 64 ∷ 66 ∷ 15 ∷ 0 ∷ 0 ∷ 0 ∷ 0 ∷ 0 ∷ 1 ∷ 0 ∷ 0 ∷ 0 ∷ 0 ∷ 0 ∷ 0 ∷ 0 ∷ 0 ∷ 0 ∷ 0 ∷ 0
    ∷ 0 ∷ 0 ∷ 0 ∷ 0 ∷ 64 ∷ 66 ∷ 15 ∷ 0 ∷ 0 ∷ 0 ∷ 0 ∷ 0 ∷ 1 ∷ 1 ∷ 1 ∷ []
unfolding example
example-head = refl

example-board : read example ≡ board_of 1
unfolding example read
example-board = refl

-- no fault; cut at once, in the version, and at the last byte; with one more; another magic word
example-ends : (fault example ≡ None) ×
    (map (λ (n : ℕ). fault (take n example)) (0 ∷ 9 ∷ 552 ∷ []) ≡ map (λ (n : ℕ). Some (record { place = n; kind = Short })) (0 ∷ 9 ∷ 552 ∷ []))
    × (fault (example ++ 0 ∷ []) ≡ Some (record { place = 553; kind = Trailing })) × (fault (set example 7 69) ≡ Some (record { place = 0; kind = Magic }))
unfolding example fault
example-ends = (refl, refl, refl, refl)

-- versions 0, 6 and 257
versions : map (λ (c : ℕ × ℕ). fault (set example c.0 c.1)) ((8, 0) ∷ (8, 6) ∷ (9, 1) ∷ []) ≡ replicate 3 (Some (record { place = 8; kind = Version }))
unfolding example fault
versions = refl

-- 0 and 17 processors; a rate that is too low, a time out of range at the anchor and at the greatest count, a guest's rate that is too high, too many accesses,
-- too long between catch-up points; the three policies. Bit 6 of a counter's programmed bits, BCD without an access, GATE of the first and the second counter,
-- the count register, the counting element, the first byte's flag and the byte without it, the read order, a latched count and a latched status without their
-- flags. Speaker data; index, registers A, C and D, divider, cycle: not a flag, and too early. The HPET's configuration and status; a timer's configuration and
-- route; the second timer. A line that is neither up nor down, more ticks due than nanoseconds and accesses, a lost tick under Delay, a sum that isn't met, the
-- line of the MC146818 without PF. The wall clock: an odd version, a number before the first publishing, nanoseconds. A processor before the first publishing:
-- offset, an odd version, TSC, time, multiplier, shift, flags
example-faults : FaultsBy example ((10, 0, 10) ∷ (10, 17, 10) ∷ (14, 0, 12) ∷ (35, 8, 28) ∷ (43, 8, 36) ∷ (47, 1, 44) ∷ (59, 128, 52) ∷ (71, 0x40, 68)
    ∷ (76, 3, 76) ∷ (77, 3, 77) ∷ (78, 3, 78)
    ∷ (79, 64, 79) ∷ (79, 6, 79) ∷ (80, 3, 80) ∷ (94, 3, 94) ∷ (81, 1, 81) ∷ (83, 1, 83) ∷ (85, 2, 85) ∷ (86, 1, 85) ∷ (87, 2, 87) ∷ (89, 1, 88) ∷ (92, 1, 91)
    ∷ (121, 2, 121) ∷ (122, 128, 122) ∷ (133, 166, 123) ∷ (135, 1, 123) ∷ (136, 0, 123) ∷ (252, 128, 251) ∷ (253, 2, 253) ∷ (253, 1, 253)
    ∷ (254, 4, 254) ∷ (255, 8, 255) ∷ (264, 1, 264) ∷ (265, 38, 264) ∷ (282, 1, 282)
    ∷ (318, 2, 318) ∷ (319, 2, 319) ∷ (343, 1, 343) ∷ (327, 1, 343) ∷ (351, 1, 351) ∷ (491, 1, 491) ∷ (483, 1, 491) ∷ (502, 64, 499)
    ∷ (503, 1, 527) ∷ (527, 1, 527) ∷ (531, 1, 531) ∷ (539, 1, 539) ∷ (547, 1, 547) ∷ (551, 1, 551) ∷ (552, 1, 552) ∷ [])
unfolding example fault
example-faults = refl

-- the bytes of version 2
unfoldable second : List ℕ
unfolding spelled
second = spelled (board_of 2)

-- eight timers; then ten lines, six counts of rises, the wall clock and a processor, all 0; what is before the timers is as in version 1, but the version
abbrev eight_timers : List ℕ
eight_timers = let one : List ℕ = 0 ∷ 40 ∷ replicate 16 0 in one ++ one ++ one ++ one ++ one ++ one ++ one ++ one

second-bytes : (length second ≡ 856) × (take 144 (drop 264 second) ≡ eight_timers) × (drop 408 second ≡ replicate 448 0) × (take 2 (drop 8 second) ≡ 2 ∷ 0 ∷ [])
    × (take 8 second ++ drop 9 (take 264 second) ≡ take 8 example ++ drop 9 (take 264 example)) × (read second ≡ board_of 2)
unfolding second example read
second-bytes = (refl, refl, refl, refl, refl, refl)

-- no fault: the example, and with eight bits of status; cut, with more, and with 64 processors. As version 1 its fourth timer would be the line of the 8254,
-- and the first example's lines timers
second-ends : (fault second ≡ None) × (fault (set second 255 255) ≡ None) × (fault (take 855 second) ≡ Some (record { place = 855; kind = Short }))
    × (fault (second ++ 0 ∷ []) ≡ Some (record { place = 856; kind = Trailing })) × (fault (set second 10 64) ≡ Some (record { place = 856; kind = Short }))
    × Faulty (set second 8 1) 319 × Faulty (set example 8 2) 318
unfolding second example fault
second-ends = (refl, refl, refl, refl, refl, refl, refl)

-- 65 processors; timers 3 and 7; the first line, the second and the last of ten, ticks of the last that are due and lost; counts of rises, the first and the
-- last; the wall clock's number, version and nanoseconds; the processor's offset, version and flags
second-faults : FaultsBy second ((10, 65, 10) ∷ (318, 1, 318) ∷ (390, 1, 390) ∷ (408, 2, 408) ∷ (441, 1, 441) ∷ (705, 2, 705) ∷ (706, 2, 706) ∷ (730, 1, 730)
    ∷ (738, 2, 738) ∷ (778, 2, 738) ∷ (786, 1, 794) ∷ (794, 1, 794) ∷ (805, 64, 802) ∷ (806, 1, 830) ∷ (830, 1, 830) ∷ (855, 1, 855) ∷ [])
unfolding second fault
second-faults = refl

-- comparator and period of timer 7 with 32 bits; as many rises as accesses, one more while the line is up; the six are one field
second-others : Faulty (set (set second 391 0x29) 396 1) 392 × Faulty (set (set second 391 0x29) 404 1) 400 × (fault (set second 738 1) ≡ None)
    × (fault (set (set second 408 1) 738 2) ≡ None) × Faulty (set (set second 408 1) 738 3) 738
    × (fault (take 760 (set second 738 9)) ≡ Some (record { place = 760; kind = Short }))
unfolding second fault
second-others = (refl, refl, refl, refl, refl, refl)

-- one with its line of the 8254 up, and its wall clock published: what was there is kept, after what is new
abbrev busy : BoardParts
busy = record (board_of 1) {
  ticks = record { policy = Delay; up = true; counts = record { due = 1; rises = 1; queue = 0; lost = 0 } } ∷ drop 1 (board_of 1).ticks;
  wall_number = 4096;
  wall_version = 2;
  wall_sec = 7;
}

unfoldable upgraded : List ℕ
unfolding spelled
upgraded = spelled (upgraded_to 2 busy)

-- a board at power on that is taken to format 2 is one of that format: the new timers and their lines are as at power on, no rise is counted
upgraded-blocks : (spelled (upgraded_to 2 (board_of 1)) ≡ second) × (length upgraded ≡ 856) × (take 144 (drop 264 upgraded) ≡ eight_timers)
    × (take 330 (drop 408 upgraded) ≡ take 165 (drop 318 (spelled busy)) ++ replicate 165 0) × (drop 738 upgraded ≡ replicate 48 0 ++ drop 483 (spelled busy))
    × (fault upgraded ≡ None)
unfolding upgraded second spelled fault
upgraded-blocks = (refl, refl, refl, refl, refl, refl)

-- boards of formats 3 to 5 at power on, after one access that did nothing
unfoldable third : List ℕ
unfolding spelled
third = spelled (board_of 3)

unfoldable fourth : List ℕ
unfolding spelled
fourth = spelled (board_of 4)

unfoldable fifth : List ℕ
unfolding spelled
fifth = spelled (board_of 5)

-- each is the one before, with its version and a block: a masked timer, a page that isn't written, and no messages
blocks-are : (drop 9 (take 856 third) ≡ drop 9 second) × (drop 9 (take 911 fourth) ≡ drop 9 third) × (drop 9 (take 948 fifth) ≡ drop 9 fourth)
    × (drop 856 third ≡ 0 ∷ 0 ∷ 1 ∷ 0 ∷ replicate 51 0) × (drop 911 fourth ≡ replicate 37 0) × (drop 948 fifth ≡ replicate 72 0)
unfolding second third fourth fifth
blocks-are = (refl, refl, refl, refl, refl, refl)

-- also the board of the bytes, a second processor, and the first example taken to format 5
fifth-ends : (read fifth ≡ board_of 5) × (length (spelled (record (board_of 5) { cpus = 2 })) ≡ 1125) × (spelled (upgraded_to 5 (board_of 1)) ≡ fifth)
    × (fault fifth ≡ None) × (fault (take 1019 fifth) ≡ Some (record { place = 1019; kind = Short }))
    × (fault (fifth ++ 0 ∷ []) ≡ Some (record { place = 1020; kind = Trailing }))
unfolding fifth read spelled fault
fifth-ends = (refl, refl, refl, refl, refl, refl)

-- a timer: a bit of the LVT that isn't kept, mode 11, bit 2 of the divide configuration, a current count above the initial one, a phase without a count, a
-- deadline in another mode; its tick line, under Discard: neither up nor down, ticks due, the sum. A page before the first publishing: number, an odd version,
-- scale, offset, offset of the TSC. Messages of the first timer and of the last; the counts of rises: those of line 0 at their row, those of line 20 at the
-- flag of the last timer
fifth-faults : FaultsBy fifth ((857, 1, 856) ∷ (858, 6, 856) ∷ (860, 4, 860) ∷ (865, 1, 865) ∷ (869, 1, 869) ∷ (870, 1, 870) ∷ (878, 2, 878) ∷ (879, 2, 879)
    ∷ (879, 1, 903) ∷ (911, 1, 919) ∷ (919, 1, 919) ∷ (924, 1, 924) ∷ (932, 1, 932) ∷ (940, 1, 940) ∷ (948, 2, 948) ∷ (1011, 2, 1011) ∷ (738, 2, 738)
    ∷ (754, 2, 1011) ∷ [])
unfolding fifth fault
fifth-faults = refl

-- a page that is enabled, with the scale of a TSC of 1 GHz and offsets
abbrev enabled : List ℕ
enabled =
    1 ∷ replicate 7 0 ++ (2 ∷ 0 ∷ 0 ∷ 0 ∷ 0 ∷ []) ++ (0x5c ∷ 0x8f ∷ 0xc2 ∷ 0xf5 ∷ 0x28 ∷ 0x5c ∷ 0x8f ∷ 2 ∷ []) ++ replicate 16 9

-- in deadline mode no initial count, but a deadline; a queue. A page of a processor that the board hasn't, and one that is enabled. A message, and in format 4
-- the rises of line 20 at their row
fifth-others : Faulty (set (set fifth 858 4) 861 1) 861 × (fault (set (set fifth 858 4) 870 1) ≡ None) × Faulty (set (set fifth 879 1) 895 1) 895
    × Faulty (set (set fifth 919 2) 923 1) 923 × (fault (take 911 fifth ++ enabled ++ drop 948 fifth) ≡ None)
    × (fault (set (set fifth 948 1) 956 255) ≡ None) × Faulty (set fourth 754 2) 738
unfolding fourth fifth fault
fifth-others = (refl, refl, refl, refl, refl, refl, refl)
