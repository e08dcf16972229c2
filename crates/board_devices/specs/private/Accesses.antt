-- Reads of the clock and writes to the HPET; private contracts alone cite this.
use Rattle.std.specs.Prelude.{
  ◌≡◌,
  ℕ,
  ◌+◌,
  ◌-◌,
  ◌%◌,
  ◌<◌,
  ◌≤◌,
  Bool,
  ◌&&◌,
  ◌||◌,
  ◌==◌,
  nat_le,
  List,
  ◌++◌,
  length,
}
use Rattle.irq_edges.specs.declared.edges.Edge.{Edge}
use Rattle.rtc_registers.specs.Access.{rtc_read}
use Rattle.board_devices.specs.declared.parts.DeviceParts.{DeviceParts}
use Rattle.board_devices.specs.declared.act.Act.TheVariants.{ClockRead}
use Rattle.board_devices.specs.Act.{acted, act_edges}
use Rattle.board_devices.specs.Places.{line_at}

-- what a read of port 71h at nanosecond t leaves, the byte that it gives, and its edges after those
-- that the list had
pub record HasReadClock (t : ℕ) (before after : DeviceParts) (byte : ℕ) (had told : List Edge)
    : Type 0 where
  pub state : after ≡ acted ClockRead before
  pub value : byte ≡ rtc_read before.rtc
  pub edges : told ≡ had ++ act_edges t ClockRead before
  pub few : length told ≤ length had + 12
  pub due : (k : ℕ) → k < 10 → (line_at k after).counts.due ≡ (line_at k before).counts.due

-- whether a write at this offset may move a line: to the configuration (10h), to the status (20h)
-- or to the configuration of a timer (100h and on, each 20h)
abbrev pub moves_lines : ℕ → Bool
moves_lines offset =
    (offset - offset % 8 == 0x10)
    || ((offset - offset % 8 == 0x20)
    || (nat_le 0x100 (offset - offset % 8) && ((offset - offset % 8) % 0x20 == 0)))
