-- Small rows that pin the definitions.
use Rattle.std.proofs.Common.{◌≡◌, ℕ, true, [], ◌∷◌, Some, None, map, refl}
use Rattle.clk_units.specs.Pulses.{falls_at, pulses_from, pulses_by}
use Rattle.hpet_comparator.specs.declared.parts.TimerParts.{TimerParts}
use Rattle.hpet_comparator.specs.Parts.{timer_at_power_on}
use Rattle.hpet_comparator.specs.Stretch.{matches_at, pulsed}
use Rattle.hpet_registers.specs.declared.parts.HpetParts.{HpetParts}
use Rattle.hpet_registers.specs.Parts.{hpet_at_power_on}
use Rattle.hpet_registers.specs.Stretch.{matches_next, hpet_pulsed}
use Rattle.hpet_bursts.specs.Messages.{message_times}
use Rattle.hpet_bursts.specs.Next.{first_where, sends_below, next_message}
use Rattle.hpet_bursts.specs.Bursts.{distance_of, burst_in, bursts_below, bursts_of, evenly}

-- a timer of edge type with its interrupt enabled, periodic with this period and comparator
abbrev periodic : ℕ → TimerParts
periodic n = record { config = 0x280c; comparator = n; period = n }

-- a timer as it is at power on: it sends none
abbrev off : TimerParts
off = timer_at_power_on

-- a block of eight timers with messages and this configuration: the first three are these, and each has bit 14
abbrev block : ℕ → TimerParts → TimerParts → TimerParts → HpetParts
block config a b c = record (hpet_at_power_on 8 true) {
  config = config;
  timer = a ∷ b ∷ c ∷ off ∷ off ∷ off ∷ off ∷ off ∷ [];
  message_bit = true ∷ true ∷ true ∷ true ∷ true ∷ true ∷ true ∷ true ∷ [];
  message_word = 0xfee0000000000030 ∷ 0xfee0000000000031 ∷ 0xfee0100000004032 ∷ 0 ∷ 0 ∷ 0 ∷ 0 ∷ 0 ∷ [];
}

-- a match each 20 ns, at its very nanosecond and none before
times : map (λ n. message_times 2 0 n (block 1 off off (periodic 2))) (19 ∷ 20 ∷ 65 ∷ []) ≡ [] ∷ (20 ∷ []) ∷ (20 ∷ 40 ∷ 60 ∷ []) ∷ []
unfolding matches_next hpet_pulsed matches_at pulsed falls_at pulses_from pulses_by
times = refl

-- as one burst; and after nanosecond 15 the first pulse falls at 20, and the third at 40 is the match
bursts : burst_in 2 0 65 (block 1 off off (periodic 2)) ∷ burst_in 2 15 35 (block 1 off off (periodic 3)) ∷ []
    ≡ Some (record { timer = 2; first = 20; count = 3; every = 20; address = 0xfee01000; «data» = 0x4032 })
    ∷ Some (record { timer = 2; first = 40; count = 1; every = 0; address = 0xfee01000; «data» = 0x4032 }) ∷ []
unfolding matches_next hpet_pulsed matches_at pulsed falls_at pulses_from pulses_by
bursts = refl

-- a one-shot timer sends once; one of level type and one with its interrupt off send none
configurations : map (λ c. message_times 0 0 40 (block 1 (record (periodic 2) { config = c }) off off)) (0x2804 ∷ 0x280e ∷ 0x2808 ∷ [])
    ≡ (20 ∷ []) ∷ [] ∷ [] ∷ []
unfolding matches_next hpet_pulsed matches_at pulsed falls_at pulses_from pulses_by
configurations = refl

-- nor does any while the counter is halted
halted : message_times 0 0 40 (block 0 (periodic 2) off off) ≡ []
unfolding matches_next hpet_pulsed matches_at pulsed falls_at pulses_from pulses_by
halted = refl

-- in order of timers, not of times
in_order_of_timers : bursts_of 0 40 (block 1 (periodic 3) (periodic 2) off)
    ≡ record { timer = 0; first = 30; count = 1; every = 0; address = 0xfee00000; «data» = 0x30 }
    ∷ record { timer = 1; first = 20; count = 2; every = 20; address = 0xfee00000; «data» = 0x31 } ∷ []
unfolding bursts_below matches_next hpet_pulsed matches_at pulsed falls_at pulses_from pulses_by
in_order_of_timers = refl

-- under legacy replacement timers 0 and 1 send none, and timer 2 does
legacy_sends_none_of_two : bursts_of 0 20 (block 3 (periodic 2) (periodic 2) (periodic 2))
    ≡ record { timer = 2; first = 20; count = 1; every = 0; address = 0xfee01000; «data» = 0x4032 } ∷ []
unfolding bursts_below matches_next hpet_pulsed matches_at pulsed falls_at pulses_from pulses_by
legacy_sends_none_of_two = refl

-- what a burst says
distances : map distance_of ([] ∷ (7 ∷ []) ∷ (7 ∷ 17 ∷ []) ∷ (7 ∷ 17 ∷ 27 ∷ []) ∷ []) ≡ 0 ∷ 0 ∷ 10 ∷ 10 ∷ []
distances = refl

three_from_7 : evenly 7 10 3 ≡ 7 ∷ 17 ∷ 27 ∷ []
three_from_7 = refl

-- the next message is the earliest of any timer's: timer 1 at 20, before timer 0 at 30
earliest_of_two : map (λ n. next_message 0 n (block 1 (periodic 3) (periodic 2) off)) (19 ∷ 20 ∷ 40 ∷ []) ≡ None ∷ Some 20 ∷ Some 20 ∷ []
unfolding first_where sends_below matches_next hpet_pulsed matches_at pulsed falls_at pulses_from pulses_by
earliest_of_two = refl
