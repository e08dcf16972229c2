-- Small rows that pin the definitions.
use Rattle.std.proofs.Common.{◌≡◌, ℕ, Bool, true, false, map, [], ◌∷◌, Some, None, refl}
use Rattle.rtc_calendar.specs.declared.TimeBytes.{TimeBytes}
use Rattle.rtc_calendar.specs.Bytes.{spelt, has_digits, is_spelt, number_in, spelling, is_hour, hour_meant}
use Rattle.rtc_calendar.specs.Bytes.{hour_in, hour_of_twelve, hour_spelling}
use Rattle.rtc_calendar.specs.Calendar.{month_length, ends_minute, ends_hour, ends_day, ends_month}
use Rattle.rtc_calendar.specs.Calendar.{ends_year, next_in, next_second}
use Rattle.rtc_calendar.specs.Updates.{month_in, year_in, last_date_in, moment_of, bytes_of, updated}
use Rattle.rtc_calendar.specs.Alarms.{fits_byte, is_match, alarm_next}
use Rattle.rtc_cycle.specs.Divider.{pulsed, ticks_next, updates_next}
use Rattle.rtc_registers.specs.declared.parts.RtcParts.{RtcParts}
use Rattle.rtc_registers.specs.declared.parts.RtcField.TheVariants.{Index, Bytes, Divider, Cycle}
use Rattle.rtc_registers.specs.Registers.{register_c, time_of, with_time}
use Rattle.rtc_registers.specs.Parts.{first_fault}
use Rattle.rtc_registers.specs.Access.{index_written, rtc_read, after_rtc_read, rtc_written, flagged}
use Rattle.rtc_registers.specs.Pulses.{moved, alarms_next, rtc_pulsed}

-- a clock with these registers A, B and C at this index; the rest of its bytes is left out
abbrev registers : ℕ → ℕ → ℕ → ℕ → RtcParts
registers index a b c = record {
  index = index;
  bytes = 1 ∷ 2 ∷ 3 ∷ 4 ∷ 5 ∷ 6 ∷ 7 ∷ 8 ∷ 9 ∷ 10 ∷ a ∷ b ∷ c ∷ 128 ∷ 14 ∷ [];
  d = 16384;
  cycle = false;
}

-- in mid-cycle
abbrev updating : ℕ → ℕ → RtcParts
updating index b = record (registers index 38 b 0) { d = 10; cycle = true }

uip_in_a : rtc_read (updating 10 2) ≡ 166
unfolding rtc_read
uip_in_a = refl

-- register C has IRQF where a flag is set with its own enable
abbrev c_read : ℕ → ℕ → ℕ
c_read b c = rtc_read (registers 12 38 b c)

irqf_in_c : c_read 0x40 0x40 ∷ c_read 0x20 0x20 ∷ c_read 0x10 0x10 ∷ c_read 0x40 0x20 ∷ c_read 0x30 0x40 ∷ []
    ≡ 0xc0 ∷ 0xa0 ∷ 0x90 ∷ 0x20 ∷ 0x40 ∷ []
unfolding rtc_read
irqf_in_c = refl

-- register C is cleared by its read, and by no other
c_after_reads : map after_rtc_read (registers 12 38 32 112 ∷ registers 11 38 32 112 ∷ []) ≡ registers 12 38 32 0 ∷ registers 11 38 32 112 ∷ []
unfolding after_rtc_read
c_after_reads = refl

-- UIP, C and D are read only
read_only : rtc_written 255 (registers 10 38 2 0) ∷ rtc_written 255 (registers 12 38 2 0) ∷ rtc_written 0 (registers 13 38 2 0) ∷ []
    ≡ registers 10 127 2 0 ∷ registers 12 38 2 0 ∷ registers 13 38 2 0 ∷ []
unfolding rtc_written
read_only = refl

dv_resets_the_divider : rtc_written 102 (updating 10 2) ≡ registers 10 102 2 0
unfolding rtc_written
dv_resets_the_divider = refl

-- SET going on clears UIE and abandons the cycle; a write while it is 1, or one that clears it, stores UIE
set_and_uie : rtc_written 146 (updating 11 2) ∷ rtc_written 146 (registers 11 38 130 0) ∷ rtc_written 18 (registers 11 38 130 0) ∷ []
    ≡ record (registers 11 38 130 0) { d = 10 } ∷ registers 11 38 146 0 ∷ registers 11 38 18 0 ∷ []
unfolding rtc_written
set_and_uie = refl

pf_joins_the_other_flags : flagged (registers 0 38 2 48) ≡ registers 0 38 2 112
unfolding flagged
pf_joins_the_other_flags = refl

-- the time without the alarm's bytes, at this second
abbrev at_second : ℕ → TimeBytes
at_second sec = record { sec = sec; min = 3; hour = 5; wday = 7; date = 8; month = 9; year = 10 }

time_apart_from_the_alarm : time_of (registers 0 38 2 0) ≡ at_second 1
time_apart_from_the_alarm = refl

index_keeps_seven_bits : index_written 0xff (registers 0 38 2 0) ≡ registers 0x7f 38 2 0
index_keeps_seven_bits = refl

-- a clock at this place of the second, in binary and 24 hours, with these alarm bytes and this register C
abbrev ticking : ℕ → Bool → ℕ → ℕ → ℕ → ℕ → RtcParts
ticking d cycle sec min hour c = record {
  index = 0;
  bytes = 1 ∷ sec ∷ 3 ∷ min ∷ 5 ∷ hour ∷ 7 ∷ 8 ∷ 9 ∷ 10 ∷ 0x26 ∷ 0x06 ∷ c ∷ 0x80 ∷ [];
  d = d;
  cycle = cycle;
}

-- its flags after a pulse: PF at a tick, though PIE is 0, and none between ticks; flags stay and join
abbrev flags : ℕ → Bool → ℕ → ℕ → ℕ → ℕ → ℕ
flags d cycle sec min hour c = register_c (rtc_pulsed (ticking d cycle sec min hour c))

pf : flags 30 false 0 0 0 0 ∷ flags 31 false 0 0 0 0 ∷ flags 30 false 0 0 0 0x70 ∷ flags 31 false 0 0 0 0x30 ∷ [] ≡ 0 ∷ 0x40 ∷ 0x70 ∷ 0x70 ∷ []
unfolding rtc_pulsed moved with_time alarms_next alarm_next is_match fits_byte updated bytes_of moment_of last_date_in month_in year_in number_in
    is_spelt has_digits spelt hour_in is_hour hour_meant hour_spelling hour_of_twelve spelling next_second
    ends_year ends_month ends_day ends_hour ends_minute next_in month_length pulsed ticks_next updates_next
pf = refl

-- UF at the end of an update, and AF where the alarm matches the new bytes, not the old ones, and not without an update
uf_and_af : flags 62 true 0 0 0 0 ∷ flags 64 true 0 0 0 0 ∷ flags 64 true 2 3 0xc0 0 ∷ flags 64 true 1 3 5 0 ∷ flags 31 false 1 3 5 0 ∷ []
    ≡ 0 ∷ 0x10 ∷ 0x30 ∷ 0x10 ∷ 0x40 ∷ []
unfolding rtc_pulsed moved with_time alarms_next alarm_next is_match fits_byte updated bytes_of moment_of last_date_in month_in year_in number_in
    is_spelt has_digits spelt hour_in is_hour hour_meant hour_spelling hour_of_twelve spelling next_second
    ends_year ends_month ends_day ends_hour ends_minute next_in month_length pulsed ticks_next updates_next
uf_and_af = refl

-- the new second at the end of an update, and the old one before
second_at_an_update : map (λ d. time_of (rtc_pulsed (ticking d true 0 0 0 0))) (62 ∷ 64 ∷ []) ≡ at_second 1 ∷ at_second 2 ∷ []
unfolding rtc_pulsed moved with_time alarms_next alarm_next is_match fits_byte updated bytes_of moment_of last_date_in month_in year_in number_in
    is_spelt has_digits spelt hour_in is_hour hour_meant hour_spelling hour_of_twelve spelling next_second
    ends_year ends_month ends_day ends_hour ends_minute next_in month_length pulsed ticks_next updates_next
second_at_an_update = refl

-- the condition that fails first: none, even at the greatest values and held with any other DV ..
valid : map first_fault (record (registers 0x7f 0x2f 0x7f 0x70) { d = 64; cycle = true } ∷ registers 0 0x7f 0xff 0 ∷ []) ≡ None ∷ None ∷ []
valid = refl

-- .. the index has seven bits ..
index_fault : first_fault (record (registers 0x80 0x80 2 0) { d = 32768 }) ≡ Some Index
index_fault = refl

-- .. register A stores no UIP, C no IRQF and three flags alone, and D is 80h ..
bytes_faults : map first_fault (record (registers 0 0xa6 2 0) { d = 32768 } ∷ registers 0 38 2 0x80 ∷ registers 0 38 2 0x48
    ∷ record (registers 0 38 2 0) { bytes = 1 ∷ 2 ∷ 3 ∷ 4 ∷ 5 ∷ 6 ∷ 7 ∷ 8 ∷ 9 ∷ 10 ∷ 38 ∷ 2 ∷ 0 ∷ 0 ∷ [] } ∷ [])
    ≡ Some Bytes ∷ Some Bytes ∷ Some Bytes ∷ Some Bytes ∷ []
bytes_faults = refl

-- .. there is no place 32768, and the divider is held at 16384 alone ..
divider_faults : map first_fault (record (registers 0 38 2 0) { d = 32768; cycle = true } ∷ record (registers 0 0x36 2 0) { d = 16385; cycle = true } ∷ [])
    ≡ Some Divider ∷ Some Divider ∷ []
divider_faults = refl

-- .. and there is no cycle while held, with SET or at 65
cycle_faults : map first_fault (record (registers 0 0x36 2 0) { cycle = true } ∷ record (registers 0 38 0x82 0) { d = 64; cycle = true }
    ∷ record (registers 0 38 2 0) { d = 65; cycle = true } ∷ [])
    ≡ Some Cycle ∷ Some Cycle ∷ Some Cycle ∷ []
cycle_faults = refl
