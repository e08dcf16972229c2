-- Rows on the messages of the HPET's timers: those of a run, those of a gap, and the registers of each format.
use Rattle.std.proofs.Common.{◌≡◌, ℕ, true, false, [], ◌∷◌, map, refl}
use Rattle.clk_units.specs.Pulses.{falls_at, pulses_from, pulses_by}
use Rattle.host_counter.specs.Time.{time_at}
use Rattle.hpet_comparator.specs.Parts.{timer_at_power_on}
use Rattle.hpet_comparator.specs.Stretch.{matches_at, pulsed}
use Rattle.hpet_registers.specs.Parts.{hpet_at_power_on}
use Rattle.hpet_registers.specs.Stretch.{matches_next, hpet_pulsed}
use Rattle.hpet_bursts.specs.Bursts.{bursts_below}
use Rattle.irq_edges.specs.declared.bursts.Burst.{Burst}
use Rattle.board_types.specs.declared.access.Access.TheVariants.{HpetWrite, Step}
use Rattle.board_types.specs.declared.parts.BoardParts.{BoardParts}
use Rattle.board_types.specs.Setup.{setup_by_default}
use Rattle.board_devices.specs.Parts.{devices_upgraded}
use Rattle.board_core.specs.PowerOn.{board_at_power_on}
use Rattle.board_core.specs.Access.{reply_of}
use Rattle.board_core.specs.Upgrade.{upgraded_to}

-- a board of format 5 at power on, but for a running timer 0 of edge type with bit 14, at each second pulse
abbrev sending : BoardParts
sending = record (board_at_power_on (setup_by_default 5)) {
  hpet = record (hpet_at_power_on 8 true) {
    config = 1;
    timer = record { config = 0x280c; comparator = 2; period = 2 } ∷ timer_at_power_on ∷ timer_at_power_on ∷ timer_at_power_on
        ∷ timer_at_power_on ∷ timer_at_power_on ∷ timer_at_power_on ∷ timer_at_power_on ∷ [];
    message_bit = true ∷ false ∷ false ∷ false ∷ false ∷ false ∷ false ∷ false ∷ [];
    message_word = 0xfee0000000000041 ∷ 0 ∷ 0 ∷ 0 ∷ 0 ∷ 0 ∷ 0 ∷ 0 ∷ [];
  };
}

-- so many of its messages, the first at nanosecond 20
abbrev burst : ℕ → ℕ → Burst
burst count every = record { timer = 0; first = 20; count = count; every = every; address = 0xfee00000; «data» = 0x41 }

-- an access is answered the messages up to its time, one at that time too
of_the_run : map (λ h. (reply_of sending 0 h Step).bursts) (65 ∷ 20 ∷ 19 ∷ []) ≡ (burst 3 20 ∷ []) ∷ (burst 1 0 ∷ []) ∷ [] ∷ []
unfolding reply_of time_at bursts_below matches_next hpet_pulsed matches_at pulsed falls_at pulses_from pulses_by
of_the_run = refl

-- what it writes itself comes too late for them
data_of_a_write : (reply_of sending 0 25 (HpetWrite 0x110 8 0)).bursts ≡ burst 1 0 ∷ []
unfolding reply_of time_at bursts_below matches_next hpet_pulsed matches_at pulsed falls_at pulses_from pulses_by
data_of_a_write = refl

-- message registers come with format 5, at power on and by an upgrade
in_formats : map (λ f. (board_at_power_on (setup_by_default f)).hpet.messages) (1 ∷ 4 ∷ 5 ∷ []) ≡ false ∷ false ∷ true ∷ []
in_formats = refl

upgraded : map (λ f. (upgraded_to f (board_at_power_on (setup_by_default 1))).hpet.messages) (1 ∷ 2 ∷ 4 ∷ 5 ∷ []) ≡ false ∷ false ∷ false ∷ true ∷ []
unfolding upgraded_to devices_upgraded
upgraded = refl

upgraded-4-5 : (upgraded_to 5 (board_at_power_on (setup_by_default 4))).hpet ≡ hpet_at_power_on 8 true
unfolding upgraded_to devices_upgraded
upgraded-4-5 = refl
