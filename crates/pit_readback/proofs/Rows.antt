-- Tables that pin the definitions: the commands at port 43h, and port 61h.
use Rattle.std.proofs.Common.{◌≡◌, true, false, Some, None, map, [], ◌∷◌, refl}
use Rattle.pit_counter.specs.Mode.{mode_of, access_of, is_bcd}
use Rattle.pit_counter.specs.Count.{modulus, read_as}
use Rattle.pit_counter.specs.Programming.{programmed, counter_at_power_on, gated}
use Rattle.pit_counter.specs.Reading.{
  count_of,
  status_of,
  shown_count,
  with_count_latched,
  with_status_latched,
  byte_read,
  status_released,
  count_released,
  after_read,
}
use Rattle.pit_readback.specs.Pit.{pit_at_power_on}
use Rattle.pit_readback.specs.Ports.{
  is_pit_port,
  is_chosen,
  latches_count,
  latches_status,
  read_back_of,
  read_back,
  commanded,
  written_43,
  port_written,
  port_read,
  after_port_read,
  written_61,
  read_of_61,
}
use Rattle.pit_counter.specs.Parts.{bits_valid, flags_valid, cr_valid, ce_valid, part_valid, read_order_valid, latched_count_valid, latched_status_valid}
use Rattle.pit_counter.specs.declared.parts.CounterField.TheVariants.{ProgrammedBits, Flags}
use Rattle.pit_counter.specs.declared.parts.CounterParts.{CounterParts}
use Rattle.pit_readback.specs.Parts.{pit_fault}
use Rattle.pit_readback.specs.declared.parts.PitParts.{PitParts}

-- read-back of D5 D4 = 00, 01 and 10, with counters 0 and 2 chosen, and one with D0 = 1, which chooses none
chosen : latches_count 0xca 0 ∷ latches_count 0xca 1 ∷ latches_status 0xda 2 ∷ latches_count 0xea 2 ∷ is_chosen 0xcf 0 ∷ []
    ≡ true ∷ false ∷ false ∷ false ∷ false ∷ []
unfolding latches_count latches_status is_chosen
chosen = refl

-- the status of counter 1 after the control word 74h: null count, OUT high, both bytes, mode 2. Once it is read, the count comes next
programmed_74 : PitParts
programmed_74 = written_43 0x74 pit_at_power_on

status_then_count : port_read 0 0x41 (port_written 0x43 0xe4 programmed_74)
    ∷ port_read 0 0x41 (after_port_read 0x41 (port_written 0x43 0xe4 programmed_74))
    ∷ []
    ≡ 0xf4 ∷ 0x00 ∷ []
unfolding programmed_74 port_read after_port_read after_read status_released count_released port_written written_43 commanded read_back read_back_of
    latches_count latches_status is_chosen programmed with_count_latched with_status_latched status_of byte_read
    shown_count count_of read_as access_of is_bcd mode_of
status_then_count = refl

port_43_reads_ones : port_read 0 0x43 pit_at_power_on ≡ 0xff
unfolding port_read
port_43_reads_ones = refl

-- port 61h: GATE 2 and the speaker bit as written, bit 14 of the time, and OUT 2, which is high at power on
port_61 : read_of_61 0 pit_at_power_on ∷ read_of_61 16384 (written_61 0x03 pit_at_power_on) ∷ [] ≡ 0x20 ∷ 0x33 ∷ []
unfolding read_of_61 written_61 gated programmed mode_of
port_61 = refl

-- the ports: 40h to 43h, and 61h
ports : map is_pit_port (0x3f ∷ 0x43 ∷ 0x44 ∷ 0x61 ∷ []) ≡ false ∷ true ∷ false ∷ true ∷ []
ports = refl

-- port 61h through the calls for all ports
port_61_written : (port_written 0x61 0x02 pit_at_power_on).speaker ≡ true
unfolding port_written written_61
port_61_written = refl

port_61_read : port_read 16384 0x61 pit_at_power_on ≡ 0x30
unfolding port_read read_of_61 programmed mode_of
port_61_read = refl

port_61_is_read_again : after_port_read 0x61 pit_at_power_on ≡ pit_at_power_on
unfolding after_port_read
port_61_is_read_again = refl

-- a timer of these counters
abbrev of_counters : CounterParts → CounterParts → CounterParts → PitParts
of_counters a b c = record { counters = a ∷ b ∷ c ∷ []; speaker = false }

-- a counter at power on, with GATE high and low
abbrev high : CounterParts
high = counter_at_power_on true

abbrev low : CounterParts
low = counter_at_power_on false

-- the conditions on the fields: GATE of counters 0 and 1 is high, which is one on the flags, and comes after the programmed bits
faults : map pit_fault
    (of_counters high high low
    ∷ of_counters high high high
    ∷ of_counters low high low
    ∷ of_counters high low low
    ∷ of_counters high (programmed 0 false) (programmed 0 false)
    ∷ of_counters high high (programmed 0 false)
    ∷ [])
    ≡ None
    ∷ None
    ∷ Some (record { counter = 0; field = Flags })
    ∷ Some (record { counter = 1; field = Flags })
    ∷ Some (record { counter = 1; field = ProgrammedBits })
    ∷ Some (record { counter = 2; field = ProgrammedBits })
    ∷ []
unfolding programmed mode_of access_of is_bcd modulus
    bits_valid flags_valid cr_valid ce_valid part_valid read_order_valid latched_count_valid latched_status_valid
faults = refl
