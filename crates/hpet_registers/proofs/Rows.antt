-- Small rows that pin the definitions.
use Rattle.std.proofs.Common.{◌≡◌, ◌/◌, ◌*◌, ◌^◌, ℕ, true, false, Some, None, map, [], ◌∷◌, refl}
use Rattle.hpet_comparator.specs.declared.parts.TimerField.TheVariants.{Comparator, Period}
use Rattle.hpet_comparator.specs.declared.parts.TimerField.TheVariants as timer_field
use Rattle.hpet_comparator.specs.declared.parts.TimerParts.{TimerParts}
use Rattle.hpet_comparator.specs.Parts.{timer_at_power_on}
use Rattle.hpet_comparator.specs.Stretch.{matches_at, pulsed}
use Rattle.hpet_registers.specs.declared.hpet.TheConstants.{HPET_HZ}
use Rattle.hpet_registers.specs.declared.parts.HpetParts.{HpetParts}
use Rattle.hpet_registers.specs.declared.parts.HpetField.TheVariants.{Timers, Messages, Config, Status, Timer, MessageBit, MessageWord}
use Rattle.hpet_registers.specs.declared.register.Register.TheVariants.{Capabilities, TimerConfig, TimerMessage, Reserved}
use Rattle.hpet_registers.specs.Parts.{no_timer, hpet_at_power_on, hpet_fault, first_below}
use Rattle.hpet_registers.specs.Outputs.{level_output, is_message, has_ticks, message_of}
use Rattle.hpet_registers.specs.Register.{register_at}
use Rattle.hpet_registers.specs.Access.{register_value, hpet_read, hpet_written}
use Rattle.hpet_registers.specs.Stretch.{matches_next, tick_next, hpet_pulsed, matches_of}

-- capabilities of blocks of three and of eight timers
capabilities : map (λ n. hpet_read 0 8 (hpet_at_power_on n false)) (3 ∷ 8 ∷ []) ≡ 0x009896808086a201 ∷ 0x009896808086a701 ∷ []
capabilities = refl

-- the last timer of eight, which can send messages or not
last_timer : map (λ m. hpet_read 0x1e0 8 (hpet_at_power_on 8 m)) (false ∷ true ∷ []) ≡ 0x00f0000000002830 ∷ 0x00f000000000a830 ∷ []
last_timer = refl

-- a narrow read and an unaligned one are all ones
invalid_reads : hpet_read 2 2 (hpet_at_power_on 3 false) ∷ hpet_read 4 8 (hpet_at_power_on 3 false) ∷ [] ≡ 0xffff ∷ 0xffffffffffffffff ∷ []
invalid_reads = refl

-- the third timer of three, and no fourth; a message register where there are messages, up to the last timer's
registers : register_at 3 false 0x140 ∷ register_at 3 false 0x168 ∷ register_at 8 false 0x110 ∷ register_at 8 true 0x1f0 ∷ []
    ≡ TimerConfig 2 ∷ Reserved ∷ Reserved ∷ TimerMessage 7 ∷ []
registers = refl

-- a pulse of 10 ns, in femtoseconds in the capabilities' high half
period_in_the_capabilities : register_value Capabilities (hpet_at_power_on 3 false) / 2 ^ 32 * HPET_HZ ≡ 10 ^ 15
period_in_the_capabilities = refl

-- a block of three timers, and the conditions on each field
abbrev three : HpetParts
three = hpet_at_power_on 3 false

-- a block of three timers with these first three
abbrev with_timers : ℕ → ℕ → TimerParts → TimerParts → TimerParts → HpetParts
with_timers config counter a b c = record three {
  config = config;
  counter = counter;
  timer = a ∷ b ∷ c ∷ no_timer ∷ no_timer ∷ no_timer ∷ no_timer ∷ no_timer ∷ [];
}

abbrev with_place : TimerParts → HpetParts
with_place t = record three {
  timer = timer_at_power_on ∷ timer_at_power_on ∷ timer_at_power_on ∷ no_timer ∷ no_timer ∷ no_timer ∷ no_timer ∷ t ∷ [];
}

power_on_is_valid : map hpet_fault (hpet_at_power_on 3 false ∷ hpet_at_power_on 8 false ∷ hpet_at_power_on 8 true ∷ []) ≡ None ∷ None ∷ None ∷ []
unfolding first_below
power_on_is_valid = refl

three_or_eight_timers : map (λ n. hpet_fault (record three { timers = n })) (0 ∷ 2 ∷ 4 ∷ 7 ∷ 9 ∷ [])
    ≡ Some Timers ∷ Some Timers ∷ Some Timers ∷ Some Timers ∷ Some Timers ∷ []
three_or_eight_timers = refl

messages_with_eight_timers : hpet_fault (hpet_at_power_on 3 true) ≡ Some Messages
messages_with_eight_timers = refl

configuration_of_two_bits : map (λ c. hpet_fault (record three { config = c })) (3 ∷ 4 ∷ 255 ∷ []) ≡ None ∷ Some Config ∷ Some Config ∷ []
unfolding first_below
configuration_of_two_bits = refl

-- status bits of three timers, and of eight
status_bits : map (λ s. hpet_fault (record three { status = s })) (7 ∷ 8 ∷ 255 ∷ []) ≡ None ∷ Some Status ∷ Some Status ∷ []
unfolding first_below
status_bits = refl

status_of_eight_bits : hpet_fault (record (hpet_at_power_on 8 false) { status = 255 }) ≡ None
unfolding first_below
status_of_eight_bits = refl

a_timer_that_is_no_timer : hpet_fault (with_timers 0 0 timer_at_power_on no_timer no_timer) ≡ Some (Timer 1 timer_field.Config)
unfolding first_below
a_timer_that_is_no_timer = refl

a_place_that_is_not_empty : map (λ t. hpet_fault (with_place t))
    (timer_at_power_on ∷ record { config = 0; comparator = 1; period = 0 } ∷ record { config = 0; comparator = 0; period = 1 } ∷ no_timer ∷ [])
    ≡ Some (Timer 7 timer_field.Config) ∷ Some (Timer 7 Comparator) ∷ Some (Timer 7 Period) ∷ None ∷ []
unfolding first_below
a_place_that_is_not_empty = refl

-- message bits and words with messages alone
message_places : map hpet_fault (record three { message_bit = false ∷ false ∷ true ∷ false ∷ false ∷ false ∷ false ∷ true ∷ [] }
    ∷ record three { message_word = 0 ∷ 0 ∷ 0 ∷ 0 ∷ 0 ∷ 1 ∷ 0 ∷ 0 ∷ [] }
    ∷ record (hpet_at_power_on 8 true) { message_word = 1 ∷ 0 ∷ 0 ∷ 0 ∷ 0 ∷ 0 ∷ 0 ∷ 9 ∷ [] } ∷ [])
    ≡ Some (MessageBit 2) ∷ Some (MessageWord 5) ∷ None ∷ []
unfolding first_below
message_places = refl

-- a pulse: without ENABLE nothing, with it all timers that are there see it
at_the_wrap : map (λ k. matches_next k (record three { config = 1; counter = 0xffffffffffffffff })) (0 ∷ 2 ∷ 3 ∷ 7 ∷ 8 ∷ [])
    ≡ true ∷ true ∷ false ∷ false ∷ false ∷ []
unfolding matches_next matches_at
at_the_wrap = refl

halted : map (λ k. matches_next k (record three { counter = 0xffffffffffffffff })) (0 ∷ 2 ∷ []) ≡ false ∷ false ∷ []
unfolding matches_next matches_at
halted = refl

halted_changes_nothing : hpet_pulsed (record three { counter = 9 }) ≡ record three { counter = 9 }
unfolding hpet_pulsed matches_next
halted_changes_nothing = refl

-- level and enabled, level alone, edge: the first two set their status bits
abbrev at_nine : HpetParts
at_nine = with_timers 1 9 (record { config = 0x2806; comparator = 10; period = 0 }) (record { config = 0x2802; comparator = 10; period = 0 })
    (record { config = 0x2804; comparator = 10; period = 0 })

level_timers_set_their_bits : (hpet_pulsed at_nine).status ≡ 3
unfolding hpet_pulsed matches_next matches_at pulsed
level_timers_set_their_bits = refl

the_counter_goes_on : (hpet_pulsed at_nine).counter ≡ 10
unfolding hpet_pulsed
the_counter_goes_on = refl

edge_ticks : map (λ k. tick_next k at_nine) (0 ∷ 1 ∷ 2 ∷ 3 ∷ []) ≡ false ∷ false ∷ true ∷ false ∷ []
unfolding matches_next matches_at
edge_ticks = refl

level_outputs : map (λ k. level_output k (record at_nine { status = 7 })) (0 ∷ 1 ∷ 2 ∷ []) ≡ true ∷ false ∷ true ∷ []
level_outputs = refl

matches_of_a_period : matches_of 0 (with_timers 1 0 (record { config = 0x280c; comparator = 3; period = 4 }) timer_at_power_on timer_at_power_on) 12 ≡ 3
unfolding hpet_pulsed matches_next matches_at pulsed
matches_of_a_period = refl

-- message timers: bit 14, enabled, of edge type, and not timer 0 or 1 under legacy replacement; they have no ticks
abbrev with_messages : ℕ → ℕ → HpetParts
with_messages config timer = let t : TimerParts = record { config = timer; comparator = 0; period = 0 } in record (hpet_at_power_on 8 true) {
  config = config;
  timer = t ∷ t ∷ t ∷ t ∷ t ∷ t ∷ t ∷ t ∷ [];
  message_bit = true ∷ true ∷ true ∷ true ∷ true ∷ true ∷ true ∷ false ∷ [];
  message_word = 0xfee0000000000041 ∷ 0 ∷ 0 ∷ 0 ∷ 0 ∷ 0 ∷ 0 ∷ 0 ∷ [];
}

-- timers 0, 1, 2 and 7, with legacy replacement off and on
message_timers : map (λ c. map (λ k. is_message k (with_messages c 0x2804)) (0 ∷ 1 ∷ 2 ∷ 7 ∷ [])) (1 ∷ 3 ∷ [])
    ≡ (true ∷ true ∷ true ∷ false ∷ []) ∷ (false ∷ false ∷ true ∷ false ∷ []) ∷ []
message_timers = refl

-- none of level type, or with the interrupt off
no_messages : map (λ t. is_message 2 (with_messages 1 t)) (0x2806 ∷ 0x2800 ∷ []) ≡ false ∷ false ∷ []
no_messages = refl

ticks_beside_messages : map (λ k. has_ticks k (with_messages 3 0x2804)) (0 ∷ 1 ∷ 2 ∷ 7 ∷ []) ≡ true ∷ true ∷ false ∷ true ∷ []
ticks_beside_messages = refl

address_and_data : message_of 0 (with_messages 1 0x2804) ≡ Some (0xfee00000, 0x41)
address_and_data = refl

-- status is cleared by ones, and by its own half alone
status_writes : (hpet_written 0x020 8 2 (record three { status = 7 })).status ∷ (hpet_written 0x024 4 0xffffffff (record three { status = 7 })).status ∷ []
    ≡ 5 ∷ 7 ∷ []
status_writes = refl

configuration_keeps_two_bits : (hpet_written 0x010 8 0xfffffffffffffffe three).config ≡ 2
configuration_keeps_two_bits = refl

-- a narrow write, an unaligned one and one of a reserved place do nothing
invalid_writes : hpet_written 0x010 2 1 three ∷ hpet_written 0x014 8 1 three ∷ hpet_written 0x160 8 0xffff three ∷ [] ≡ three ∷ three ∷ three ∷ []
invalid_writes = refl
