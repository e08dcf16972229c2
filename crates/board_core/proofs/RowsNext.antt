-- Rows on the next edge, and on the count of a line's rises.
use Rattle.std.proofs.Common.{◌≡◌, ℕ, false, [], ◌∷◌, map, replicate, Some, None, refl}
use Rattle.clk_units.specs.Pulses.{falls_at, pulses_by}
use Rattle.hpet_registers.specs.Stretch.{hpet_pulsed}
use Rattle.rtc_registers.specs.Parts.{rtc_at_power_on}
use Rattle.rtc_registers.specs.Registers.{with_time}
use Rattle.tick_policy.specs.declared.parts.Policy.TheVariants.{Slew}
use Rattle.board_types.specs.declared.access.Access.TheVariants.{Rose}
use Rattle.board_types.specs.declared.parts.BoardParts.{BoardParts}
use Rattle.board_types.specs.declared.reply.Value.TheVariants.{Word}
use Rattle.board_types.specs.Setup.{setup_by_default}
use Rattle.board_devices.specs.declared.parts.DeviceParts.{DeviceParts}
use Rattle.board_devices.specs.Lines.{levels}
use Rattle.board_devices.specs.Nanosecond.{at_nanosecond, pit_pulse, rtc_pulse, hpet_pulse, catch_up_point}
use Rattle.board_devices.specs.Places.{no_line}
use Rattle.board_devices.specs.Run.{run, onward}
use Rattle.board_core.specs.Access.{value_at}
use Rattle.board_core.specs.Next.{first_edge, next_of}
use Rattle.board_core.specs.PowerOn.{board_at_power_on}
use Rattle.board_core.specs.Time.{devices_in}

abbrev board : BoardParts
board = board_at_power_on (setup_by_default 2)

-- a tick of the 8254 waits for the next catch-up point, which lifts line 0
abbrev waiting : ℕ → DeviceParts
waiting slew_ns = devices_in (record board {
  slew_ns = slew_ns;
  ticks = record { policy = Slew; up = false; counts = record { due = 1; rises = 0; queue = 1; lost = 0 } } ∷ replicate 9 no_line;
})

-- in 97 ns and so many more: before it, at it, and in a longer time
around_it : map (λ n. first_edge 97 n (waiting 100)) (2 ∷ 3 ∷ 5 ∷ []) ≡ None ∷ Some 100 ∷ Some 100 ∷ []
unfolding first_edge run onward at_nanosecond pit_pulse rtc_pulse hpet_pulse catch_up_point levels falls_at pulses_by hpet_pulsed rtc_at_power_on with_time
around_it = refl

-- 2^59 - 1 is a multiple of 179951: the last nanosecond in which an edge is next
at_the_last_nanosecond : next_of 576460752303423486 (waiting 179951) ≡ Some 576460752303423487
unfolding first_edge run onward at_nanosecond pit_pulse rtc_pulse hpet_pulse catch_up_point levels falls_at pulses_by hpet_pulsed rtc_at_power_on with_time
at_the_last_nanosecond = refl

none_after_it : next_of 576460752303423487 (waiting 1) ≡ None
unfolding first_edge
none_after_it = refl

-- a count of rises is a word of 8 bytes
rises_of_line_21 : value_at (record board { rises = 5 ∷ 6 ∷ 7 ∷ 8 ∷ 9 ∷ 10 ∷ [] }) 0 0 (Rose 21) ≡ Word 8 8
unfolding value_at
rises_of_line_21 = refl
