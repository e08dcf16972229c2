-- What the six programmed bits of a control word say. Intel 8254 data sheet, "Control Word Format".
use Rattle.std.specs.Prelude.{ℕ, ◌/◌, ◌%◌, ◌==◌, ◌||◌, Bool, true, false, if◌then◌else◌}
use Rattle.clk_units.specs.Bits.{bit}
use Rattle.pit_counter.specs.declared.mode.Mode.{Mode}
use Rattle.pit_counter.specs.declared.mode.Mode.TheVariants.{
  TerminalCount,
  OneShot,
  RateGenerator,
  SquareWave,
  SoftwareStrobe,
  HardwareStrobe,
}
use Rattle.pit_counter.specs.declared.mode.Access.{Access}
use Rattle.pit_counter.specs.declared.mode.Access.TheVariants.{LowByte, HighByte, LowThenHigh}

-- M2 M1 M0 are D3 to D1: 000, 001, X10, X11, 100, 101
unfoldable pub mode_of : ℕ → Mode
mode_of bits =
    let m = bits / 2 % 8 in
    if m == 0 then TerminalCount
    else if m == 1 then OneShot
    else if m % 4 == 2 then RateGenerator
    else if m % 4 == 3 then SquareWave
    else if m == 4 then SoftwareStrobe
    else HardwareStrobe

-- RW1 RW0 are D5 and D4: 01 the low byte alone, 10 the high byte alone, 11 both, the low one first
unfoldable pub access_of : ℕ → Access
access_of bits =
    let rw = bits / 16 % 4 in
    if rw == 1 then LowByte
    else if rw == 2 then HighByte
    else LowThenHigh

-- D0 is 1 for BCD
unfoldable pub is_bcd : ℕ → Bool
is_bcd bits = bit 0 bits

-- mode 0, in which writing a count sets OUT low
abbrev pub is_terminal : Mode → Bool
is_terminal TerminalCount = true
is_terminal _ = false

-- mode 2, in which OUT is low while the count is 1
abbrev pub is_rate : Mode → Bool
is_rate RateGenerator = true
is_rate _ = false

-- mode 3, in which the count goes down by two
abbrev pub is_square : Mode → Bool
is_square SquareWave = true
is_square _ = false

-- modes 2 and 3, which load the count again and again
abbrev pub is_periodic : Mode → Bool
is_periodic m = is_rate m || is_square m

-- modes 1, 2, 3 and 5, in which a rise of GATE is a trigger
abbrev pub has_trigger : Mode → Bool
has_trigger TerminalCount = false
has_trigger SoftwareStrobe = false
has_trigger _ = true

-- modes 4 and 5, in which OUT is low for one pulse at the end of a count
abbrev pub has_strobe : Mode → Bool
has_strobe SoftwareStrobe = true
has_strobe HardwareStrobe = true
has_strobe _ = false

-- both bytes of the count are written and read
abbrev pub takes_two : Access → Bool
takes_two LowThenHigh = true
takes_two _ = false
