-- The levels of the six lines: 0 and 8 of a PC, and 20 to 23, four inputs of the I/O APIC (own).
-- Sections are those of the IA-PC HPET specification 1.0a.
use Rattle.std.specs.Prelude.{
  ℕ,
  zero,
  suc,
  Bool,
  false,
  ◌&&◌,
  ◌||◌,
  ◌==◌,
  not,
  nat_lt,
  if◌then◌else◌,
  List,
  [],
  ◌∷◌,
}
use Rattle.rtc_registers.specs.Registers.{irqf_of}
use Rattle.hpet_comparator.specs.Parts.{is_level, route_of}
use Rattle.hpet_registers.specs.declared.parts.HpetParts.{HpetParts}
use Rattle.hpet_registers.specs.Parts.{timer_at, is_legacy}
use Rattle.hpet_registers.specs.Outputs.{level_output, is_message}
use Rattle.board_devices.specs.declared.parts.DeviceParts.{DeviceParts}
use Rattle.board_devices.specs.Places.{line_at}

-- the output of timer k: its status bit with its interrupt enabled for level type (2.3.6), else its
-- tick line (2.3.8), and low while its matches are messages (2.3.10)
abbrev pub output_of : ℕ → DeviceParts → Bool
output_of k d =
    if is_level (timer_at k d.hpet) then level_output k d.hpet
    else not (is_message k d.hpet) && (line_at (suc (suc k)) d).up

-- legacy replacement takes timers 0 and 1 from the lines to which they are routed (2.3.5,
-- LEG_RT_CNF)
abbrev pub is_replaced : ℕ → HpetParts → Bool
is_replaced k h = is_legacy h && nat_lt k 2

-- any other timer drives the line to which it is routed (2.3.8, Tn_INT_ROUTE_CNF)
abbrev pub drives : ℕ → ℕ → HpetParts → Bool
drives line k h = (route_of (timer_at k h).config == line) && not (is_replaced k h)

-- whether one of the first n timers drives the line and is up
abbrev pub routed : ℕ → ℕ → DeviceParts → Bool
routed line zero d = false
routed line (suc k) d = routed line k d || (drives line k d.hpet && output_of k d)

-- the levels of lines 0, 8 and 20 to 23. With LEG_RT 0 line 0 is the tick line of the 8254 and line
-- 8 IRQF of the MC146818 ("Register C"); with LEG_RT 1 they are the outputs of timers 0 and 1
-- (2.3.5). LEG_RT alone decides (own)
unfoldable pub levels : DeviceParts → List Bool
levels d =
    (if is_legacy d.hpet then output_of 0 d else (line_at 0 d).up)
    ∷ (if is_legacy d.hpet then output_of 1 d else irqf_of d.rtc)
    ∷ routed 20 8 d ∷ routed 21 8 d ∷ routed 22 8 d ∷ routed 23 8 d ∷ []
