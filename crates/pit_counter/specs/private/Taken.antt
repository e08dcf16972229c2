-- What calls leave that take many pulses; private contracts alone cite this.
use Rattle.std.specs.Prelude.{◌≡◌, ℕ, ◌<◌, ◌≤◌}
use Rattle.clk_units.specs.Events.{IsFirst}
use Rattle.pit_counter.specs.Table.{pulsed_times, rises_in}
use Rattle.pit_counter.specs.declared.parts.CounterParts.{CounterParts}
use Rattle.pit_counter.specs.declared.rises.Rises.{Rises}
use Rattle.pit_counter.specs.declared.stretch.Leap.{Leap}

-- the counter has taken n pulses, and these are the rises of OUT among them
pub record HasTaken (n : ℕ) (before after : CounterParts) (rises : Rises) : Type 0 where
  pub state : after ≡ pulsed_times n before
  pub count : rises.count ≡ rises_in before n
  pub first : IsFirst (rises_in before) n rises.first

-- the counter has taken some of the next n pulses, one at least
pub record IsLeap (n : ℕ) (before : CounterParts) (leap : Leap) : Type 0 where
  pub forward : 0 < leap.pulses
  pub within : leap.pulses ≤ n
  pub taken : HasTaken leap.pulses before leap.parts leap.rises
