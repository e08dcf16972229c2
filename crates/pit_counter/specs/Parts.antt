-- The conditions on the fields of a counter, in the order of a saved state's fields. A condition on
-- several fields is one on the first of them at which it is certain that it fails (own).
use Rattle.std.specs.Prelude.{◌%◌, ◌==◌, nat_lt, nat_le, ◌&&◌, ◌||◌, not, Bool, IsTrue}
use Rattle.std.specs.Prelude.{Option, Some, None, if◌then◌else◌}
use Rattle.pit_counter.specs.Mode.{
  mode_of,
  access_of,
  is_terminal,
  is_rate,
  is_square,
  is_periodic,
  has_trigger,
  has_strobe,
  takes_two,
}
use Rattle.pit_counter.specs.Count.{modulus}
use Rattle.pit_counter.specs.declared.mode.Mode.{Mode}
use Rattle.pit_counter.specs.declared.parts.CounterField.{CounterField}
use Rattle.pit_counter.specs.declared.parts.CounterField.TheVariants.{
  ProgrammedBits,
  Flags,
  CountRegister,
  CountingElement,
  FirstByte,
  ReadOrder,
  LatchedCount,
  LatchedStatus,
}
use Rattle.pit_counter.specs.declared.parts.CounterParts.{CounterParts}

-- a is true only where b is
abbrev pub only_where : Bool → Bool → Bool
only_where a b = not a || b

-- the programmed bits are those of a control word: six bits, D5 and D4 not both 0
unfoldable pub bits_valid : CounterParts → Bool
bits_valid c = nat_le 16 c.bits && nat_lt c.bits 64

-- where OUT may be low: in mode 0, and else where a count is loaded, in modes 2 and 3 with GATE
-- high, in modes 4 and 5 with no strobe due
abbrev pub may_be_low : Mode → CounterParts → Bool
may_be_low m c =
    is_terminal m
    || (c.live && only_where (is_periodic m) c.gate && only_where (has_strobe m) (not c.armed))

-- a count is loaded only where one was written, and null count is 0 only where one is loaded
abbrev pub count_flags_valid : CounterParts → Bool
count_flags_valid c = only_where c.live c.full && (c.null || c.live)

-- each flag of a mode is set in its modes alone, and where there is a count
abbrev pub mode_flags_valid : Mode → CounterParts → Bool
mode_flags_valid m c =
    only_where c.armed (has_strobe m && c.live)
    && only_where c.trig (has_trigger m && c.full)
    && only_where c.odd (is_square m && c.live)

-- OUT is low only where its mode lets it be, and in mode 0 while a count waits for its load
abbrev pub out_valid : Mode → CounterParts → Bool
out_valid m c =
    (c.out || may_be_low m c)
    && only_where (is_terminal m && c.null) (not c.out)

-- the flags
unfoldable pub flags_valid : CounterParts → Bool
flags_valid c =
    count_flags_valid c && mode_flags_valid (mode_of c.bits) c && out_valid (mode_of c.bits) c

-- the count register is 0 where no count was written
unfoldable pub cr_valid : CounterParts → Bool
cr_valid c = c.full || c.cr == 0

-- the counting element is in its range, 0 before the first load, even in mode 3, and 1 where OUT is
-- low in mode 2
unfoldable pub ce_valid : CounterParts → Bool
ce_valid c =
    nat_lt c.ce (modulus c.bits)
    && (c.live || c.ce == 0)
    && only_where (is_square (mode_of c.bits)) (c.ce % 2 == 0)
    && only_where (is_rate (mode_of c.bits) && not c.out) (c.ce == 1)

-- a first byte waits only where two are taken, in mode 0 with OUT low; without one the byte is 0
unfoldable pub part_valid : CounterParts → Bool
part_valid c =
    only_where c.part_there (takes_two (access_of c.bits))
    && (c.part_there || c.part == 0)
    && only_where (is_terminal (mode_of c.bits) && c.part_there) (not c.out)

-- the high byte is next only where both are read
unfoldable pub read_order_valid : CounterParts → Bool
read_order_valid c = only_where c.high_next (takes_two (access_of c.bits))

-- a latched count is 0 where none is latched
unfoldable pub latched_count_valid : CounterParts → Bool
latched_count_valid c = c.count_latched || c.latched_count == 0

-- a latched status is 0 where none is latched
unfoldable pub latched_status_valid : CounterParts → Bool
latched_status_valid c = c.status_latched || c.latched_status == 0

-- the fields of a counter
pub record IsCounter (c : CounterParts) : Type 0 where
  pub bits : IsTrue (bits_valid c)
  pub flags : IsTrue (flags_valid c)
  pub cr : IsTrue (cr_valid c)
  pub ce : IsTrue (ce_valid c)
  pub part : IsTrue (part_valid c)
  pub read_order : IsTrue (read_order_valid c)
  pub latched_count : IsTrue (latched_count_valid c)
  pub latched_status : IsTrue (latched_status_valid c)

-- the first field after the counting element whose condition fails
abbrev pub fault_after_count : CounterParts → Option CounterField
fault_after_count c =
    if not (part_valid c) then Some FirstByte
    else if not (read_order_valid c) then Some ReadOrder
    else if not (latched_count_valid c) then Some LatchedCount
    else if not (latched_status_valid c) then Some LatchedStatus
    else None

-- the first field, in the order of a saved state, whose condition fails
abbrev pub first_fault : CounterParts → Option CounterField
first_fault c =
    if not (bits_valid c) then Some ProgrammedBits
    else if not (flags_valid c) then Some Flags
    else if not (cr_valid c) then Some CountRegister
    else if not (ce_valid c) then Some CountingElement
    else fault_after_count c
