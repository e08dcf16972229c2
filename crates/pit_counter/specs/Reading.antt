-- Latches, and the order in which a counter's bytes are read. Intel 8254 data sheet, "Read
-- Operations", "Counter Latch Command" and "Read-Back Command".
use Rattle.std.specs.Prelude.{ℕ, ◌+◌, ◌/◌, ◌%◌, ◌&&◌, not, Bool, true, false, if◌then◌else◌}
use Rattle.clk_units.specs.Bits.{bit_value}
use Rattle.pit_counter.specs.Mode.{access_of, takes_two}
use Rattle.pit_counter.specs.Count.{read_as}
use Rattle.pit_counter.specs.declared.mode.Access.{Access}
use Rattle.pit_counter.specs.declared.mode.Access.TheVariants.{LowByte, HighByte, LowThenHigh}
use Rattle.pit_counter.specs.declared.parts.CounterParts.{CounterParts}

-- the count as it reads now
unfoldable pub count_of : CounterParts → ℕ
count_of c = read_as c.bits c.ce

-- the status byte: D7 OUT, D6 null count, D5 to D0 the programmed bits
unfoldable pub status_of : CounterParts → ℕ
status_of c = bit_value c.out 7 + bit_value c.null 6 + c.bits

-- the count that a read is of: the latched one, or the present one
unfoldable pub shown_count : CounterParts → ℕ
shown_count c = if c.count_latched then c.latched_count else count_of c

-- a latch keeps the count as it reads now, unless a latched count is there
unfoldable pub with_count_latched : CounterParts → CounterParts
with_count_latched c = record c { count_latched = true; latched_count = shown_count c }

-- and the status likewise
unfoldable pub with_status_latched : CounterParts → CounterParts
with_status_latched c =
    if c.status_latched then c
    else record c { status_latched = true; latched_status = status_of c }

-- whether a read of the count gives its high byte: by RW1 RW0, with both bytes in turn
abbrev pub reads_high : Access → Bool → Bool
reads_high LowByte high_next = false
reads_high HighByte high_next = true
reads_high LowThenHigh high_next = high_next

-- whether that byte is the last of the count: its one byte, or of both bytes the high one
abbrev pub reads_last : Access → Bool → Bool
reads_last LowThenHigh high_next = high_next
reads_last _ high_next = true

-- the byte that a read gives: a latched status first, else a byte of the count
unfoldable pub byte_read : CounterParts → ℕ
byte_read c =
    if c.status_latched then c.latched_status
    else if reads_high (access_of c.bits) c.high_next then shown_count c / 256
    else shown_count c % 256

-- a read releases a latched status and leaves the count alone ..
unfoldable pub status_released : CounterParts → CounterParts
status_released c = record c { status_latched = false; latched_status = 0 }

-- .. or turns to the other byte, and releases a latched count with its last byte
unfoldable pub count_released : CounterParts → CounterParts
count_released c = record c {
  high_next = takes_two (access_of c.bits) && not c.high_next;
  count_latched = c.count_latched && not (reads_last (access_of c.bits) c.high_next);
  latched_count = if reads_last (access_of c.bits) c.high_next then 0 else c.latched_count;
}

-- the counter after a read
unfoldable pub after_read : CounterParts → CounterParts
after_read c = if c.status_latched then status_released c else count_released c
