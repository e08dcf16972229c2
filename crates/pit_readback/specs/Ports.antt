-- The ports 40h to 43h and 61h. Intel 8254 data sheet, "Programming the 8254", "Counter Latch
-- Command" and "Read-Back Command"; port 61h is that of the PC AT.
use Rattle.std.specs.Prelude.{
  ℕ,
  ◌+◌,
  ◌-◌,
  ◌/◌,
  ◌%◌,
  ◌==◌,
  nat_le,
  ◌&&◌,
  ◌||◌,
  not,
  Bool,
  if◌then◌else◌,
  [],
  ◌∷◌,
  map,
}
use Rattle.clk_units.specs.Bits.{bit, bit_value}
use Rattle.pit_counter.specs.declared.parts.CounterParts.{CounterParts}
use Rattle.pit_counter.specs.Programming.{controlled, byte_written, gated}
use Rattle.pit_counter.specs.Reading.{
  with_count_latched,
  with_status_latched,
  byte_read,
  after_read,
}
use Rattle.pit_readback.specs.Pit.{counter_of, with_counter}
use Rattle.pit_readback.specs.declared.parts.PitParts.{PitParts}

-- a port of the timer: 40h to 43h, and 61h
abbrev pub is_pit_port : ℕ → Bool
is_pit_port port = (nat_le 0x40 port && nat_le port 0x43) || port == 0x61

-- whether a read-back command chooses counter k: D1, D2 and D3 are counters 0, 1 and 2; one with
-- D0 = 1 does nothing (own)
unfoldable pub is_chosen : ℕ → ℕ → Bool
is_chosen byte k = not (bit 0 byte) && bit (k + 1) byte

-- D5 = 0 latches the counts of the chosen counters ..
unfoldable pub latches_count : ℕ → ℕ → Bool
latches_count byte k = is_chosen byte k && not (bit 5 byte)

-- .. and D4 = 0 their status
unfoldable pub latches_status : ℕ → ℕ → Bool
latches_status byte k = is_chosen byte k && not (bit 4 byte)

-- what a read-back command does to counter k
unfoldable pub read_back_of : ℕ → ℕ → CounterParts → CounterParts
read_back_of byte k c =
    let counted = if latches_count byte k then with_count_latched c else c in
    if latches_status byte k then with_status_latched counted else counted

-- a read-back command: D7 D6 = 11
unfoldable pub read_back : ℕ → PitParts → PitParts
read_back byte p =
    record p { counters = map (λ k. read_back_of byte k (counter_of p k)) (0 ∷ 1 ∷ 2 ∷ []) }

-- a word for one counter: D5 D4 = 00 latches its count, another is a control word
unfoldable pub commanded : ℕ → CounterParts → CounterParts
commanded byte c =
    if byte / 16 % 4 == 0 then with_count_latched c
    else controlled (byte % 64) c

-- a write of port 43h: D7 D6 choose the counter, 11 is read-back
unfoldable pub written_43 : ℕ → PitParts → PitParts
written_43 byte p =
    if byte / 64 == 3 then read_back byte p
    else with_counter (byte / 64) (commanded byte (counter_of p (byte / 64))) p

-- a write of port 61h: bit 0 is GATE of counter 2, bit 1 speaker data
unfoldable pub written_61 : ℕ → PitParts → PitParts
written_61 byte p =
    record (with_counter 2 (gated (bit 0 byte) (counter_of p 2)) p) { speaker = bit 1 byte }

-- a write of one of the ports; 40h, 41h and 42h take the bytes of a count
unfoldable pub port_written : ℕ → ℕ → PitParts → PitParts
port_written port byte p =
    if port == 0x61 then written_61 byte p
    else if port == 0x43 then written_43 byte p
    else with_counter (port - 0x40) (byte_written byte (counter_of p (port - 0x40))) p

-- what a read of port 61h gives at a nanosecond: bit 0 GATE of counter 2, bit 1 speaker data, bit 4
-- bit 14 of the time (own), bit 5 OUT of counter 2, the rest 0
unfoldable pub read_of_61 : ℕ → PitParts → ℕ
read_of_61 now p =
    bit_value (counter_of p 2).gate 0
    + bit_value p.speaker 1
    + bit_value (bit 14 now) 4
    + bit_value (counter_of p 2).out 5

-- what a read of one of the ports gives at a nanosecond; 43h reads FFh (own)
unfoldable pub port_read : ℕ → ℕ → PitParts → ℕ
port_read now port p =
    if port == 0x61 then read_of_61 now p
    else if port == 0x43 then 0xff
    else byte_read (counter_of p (port - 0x40))

-- and what it leaves: the reads of 43h and 61h change nothing
unfoldable pub after_port_read : ℕ → PitParts → PitParts
after_port_read port p =
    if port == 0x61 then p
    else if port == 0x43 then p
    else with_counter (port - 0x40) (after_read (counter_of p (port - 0x40))) p
