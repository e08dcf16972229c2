-- What calls leave that take many pulses of the MC146818's crystal, and the events that they answer; private contracts
-- alone cite this.
use Rattle.std.specs.Prelude.{◌≡◌, ℕ, ◌≤◌}
use Rattle.clk_units.specs.Events.{IsFirst}
use Rattle.rtc_cycle.specs.Divider.{ticks_in, updates_in}
use Rattle.rtc_registers.specs.declared.events.RtcEvents.{RtcEvents}
use Rattle.rtc_registers.specs.declared.parts.RtcParts.{RtcParts}
use Rattle.rtc_registers.specs.Registers.{divider_of}
use Rattle.rtc_registers.specs.Pulses.{rtc_pulsed_times, alarms_in}

-- the fields have taken n pulses, and these are the events among them
pub record HasTaken (n : ℕ) (before after : RtcParts) (events : RtcEvents) : Type 0 where
  pub state : after ≡ rtc_pulsed_times n before
  pub ticks : events.cycle.ticks ≡ ticks_in (divider_of before) n
  pub few_ticks : events.cycle.ticks ≤ n
  pub first_tick : IsFirst (ticks_in (divider_of before)) n events.cycle.first_tick
  pub updates : events.cycle.updates ≡ updates_in (divider_of before) n
  pub few_updates : events.cycle.updates ≤ n
  pub first_update : IsFirst (updates_in (divider_of before)) n events.cycle.first_update
  pub first_alarm : IsFirst (alarms_in before) n events.first_alarm
