-- What control words, counts and GATE do to a counter. Intel 8254 data sheet, "Programming the
-- 8254" and "Gate".
use Rattle.std.specs.Prelude.{ℕ, ◌+◌, ◌*◌, ◌&&◌, ◌||◌, not, Bool, true, false, if◌then◌else◌}
use Rattle.pit_counter.specs.Mode.{mode_of, access_of, is_terminal, is_periodic, has_trigger}
use Rattle.pit_counter.specs.declared.mode.Access.{Access}
use Rattle.pit_counter.specs.declared.mode.Access.TheVariants.{LowByte, HighByte, LowThenHigh}
use Rattle.pit_counter.specs.declared.parts.CounterParts.{CounterParts}

-- a counter just programmed: OUT is low in mode 0 and high in the others, there is no count, and
-- nothing is latched; the count reads 0 until the first load (own)
unfoldable pub programmed : ℕ → Bool → CounterParts
programmed bits gate = record {
  bits = bits;
  null = true;
  out = not (is_terminal (mode_of bits));
  gate = gate;
  full = false;
  live = false;
  armed = false;
  trig = false;
  odd = false;
  cr = 0;
  ce = 0;
  part_there = false;
  part = 0;
  high_next = false;
  count_latched = false;
  latched_count = 0;
  status_latched = false;
  latched_status = 0;
}

-- power on: as programmed with 36h, which is both bytes, mode 3, binary (own)
abbrev pub counter_at_power_on : Bool → CounterParts
counter_at_power_on gate = programmed 0x36 gate

-- a control word keeps the level of GATE alone
abbrev pub controlled : ℕ → CounterParts → CounterParts
controlled bits c = programmed bits c.gate

-- a whole count is written: it waits for its load
unfoldable pub completed : ℕ → CounterParts → CounterParts
completed count c = record c { cr = count; full = true; null = true; part_there = false; part = 0 }

-- the first of two bytes is written: in mode 0 it stops the count
unfoldable pub begun : ℕ → CounterParts → CounterParts
begun byte c = record c { part_there = true; part = byte }

-- a byte of a count is written, by RW1 RW0
unfoldable pub byte_written_by : Access → ℕ → CounterParts → CounterParts
byte_written_by LowByte byte c = completed byte c
byte_written_by HighByte byte c = completed (byte * 256) c
byte_written_by LowThenHigh byte c =
    if c.part_there then completed (c.part + byte * 256) c
    else begun byte c

-- a byte of a count is written: in mode 0 OUT goes low with each
abbrev pub byte_written : ℕ → CounterParts → CounterParts
byte_written byte c =
    byte_written_by (access_of c.bits) byte
    (record c { out = c.out && not (is_terminal (mode_of c.bits)) })

-- GATE takes a level: a fall sets OUT high at once in modes 2 and 3, a rise is a trigger in modes
-- 1, 2, 3 and 5 where a count was written (own)
unfoldable pub gated : Bool → CounterParts → CounterParts
gated level c = record c {
  gate = level;
  out = c.out || (c.gate && not level && is_periodic (mode_of c.bits));
  trig = c.trig || (not c.gate && level && has_trigger (mode_of c.bits) && c.full);
}
