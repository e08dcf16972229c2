-- Tables that pin the definitions, worked out by hand from the timing diagrams.
use Rattle.std.proofs.Common.{◌≡◌, ℕ, true, false, [], ◌∷◌, refl}
use Rattle.pit_counter.specs.Mode.{mode_of, access_of, is_bcd}
use Rattle.pit_counter.specs.Count.{
  modulus,
  from_digits,
  to_digits,
  number_in,
  meant_count,
  is_odd_square,
  loaded_count,
  lowered,
  read_as,
}
use Rattle.pit_counter.specs.Table.{effect_in, pulsed, pulsed_times, rises_next, rises_in}
use Rattle.pit_counter.specs.Programming.{
  programmed,
  controlled,
  counter_at_power_on,
  completed,
  byte_written_by,
  byte_written,
  gated,
}
use Rattle.pit_counter.specs.Reading.{count_of, shown_count, byte_read, with_count_latched, count_released, after_read}
use Rattle.pit_counter.specs.declared.parts.CounterParts.{CounterParts}

-- a counter with GATE high, just programmed, with a low byte written
abbrev programmed_with : ℕ → ℕ → CounterParts
programmed_with bits low = byte_written low (controlled bits (counter_at_power_on true))

-- .. and after n pulses
abbrev after : ℕ → ℕ → ℕ → CounterParts
after n bits low = pulsed_times n (programmed_with bits low)

-- the first pulse loads, and doesn't count; BCD counts from 0 down to 9999
counts : count_of (after 1 0x14 4) ∷ count_of (after 3 0x11 1) ∷ [] ≡ 4 ∷ 0x9999 ∷ []
unfolding pulsed_times pulsed effect_in programmed completed byte_written_by mode_of access_of is_bcd modulus from_digits number_in meant_count is_odd_square
    loaded_count lowered count_of read_as to_digits
counts = refl

-- rises of OUT: in mode 2 at the fifth pulse first, twice in eleven pulses of mode 3 with an odd count, and one strobe of mode 4
rises : rises_in (programmed_with 0x14 4) 4 ∷ rises_in (programmed_with 0x14 4) 5 ∷ rises_in (programmed_with 0x16 5) 11
    ∷ rises_in (programmed_with 0x18 1) 3 ∷ []
    ≡ 0 ∷ 1 ∷ 2 ∷ 1 ∷ []
unfolding rises_in rises_next pulsed_times pulsed effect_in programmed completed byte_written_by mode_of access_of is_bcd modulus number_in meant_count
    is_odd_square loaded_count lowered
rises = refl

-- OUT in mode 3 is high for three pulses of an odd count of 5 and low for two; in mode 2 it is high once GATE falls
levels : (after 3 0x16 5).out ∷ (after 5 0x16 5).out ∷ (gated false (after 3 0x14 3)).out ∷ [] ≡ true ∷ false ∷ true ∷ []
unfolding gated pulsed_times pulsed effect_in programmed completed byte_written_by mode_of access_of is_bcd modulus number_in meant_count is_odd_square
    loaded_count lowered
levels = refl

mode_5_waits_for_its_trigger : (after 2 0x1a 1).live ≡ false
unfolding pulsed_times pulsed effect_in programmed completed byte_written_by mode_of access_of is_bcd
mode_5_waits_for_its_trigger = refl

digit_above_nine : meant_count 0x15 0x9b ≡ 101
unfolding meant_count number_in from_digits is_bcd mode_of
digit_above_nine = refl

-- the high byte alone, RW 10: written, it is the whole count
high_byte_written : (byte_written 0x12 (programmed 0x24 true)).cr ≡ 0x1200
unfolding programmed byte_written_by completed access_of mode_of
high_byte_written = refl

high_byte_is_whole : (byte_written 0x12 (programmed 0x24 true)).full ≡ true
unfolding programmed byte_written_by completed access_of mode_of
high_byte_is_whole = refl

-- a counter of RW 10 at a count of 1234h
abbrev at_1234 : CounterParts
at_1234 = record (programmed 0x24 true) { ce = 0x1234 }

-- the high byte read, latched, and read from the latch
high_byte_read : byte_read at_1234 ∷ (with_count_latched at_1234).latched_count ∷ byte_read (record (with_count_latched at_1234) { ce = 0 }) ∷ []
    ≡ 0x12 ∷ 0x1234 ∷ 0x12 ∷ []
unfolding programmed byte_read with_count_latched shown_count count_of read_as access_of is_bcd mode_of
high_byte_read = refl

high_byte_releases_the_latch : (after_read (with_count_latched at_1234)).count_latched ≡ false
unfolding programmed after_read count_released with_count_latched shown_count count_of read_as access_of is_bcd mode_of
high_byte_releases_the_latch = refl
