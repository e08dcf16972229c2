-- What calls leave that let nanoseconds pass; private contracts alone cite this.
use Rattle.std.specs.Prelude.{◌≡◌, ℕ, ◌≤◌}
use Rattle.clk_units.specs.Events.{IsFirst}
use Rattle.lapic_timer.specs.declared.parts.ApicParts.{ApicParts}
use Rattle.lapic_timer.specs.declared.stretch.Fires.{Fires}
use Rattle.lapic_timer.specs.Stretch.{passed_times, fires_in}

-- n nanoseconds have passed, and these are the fires of the timer in them
pub record HasPassed (n : ℕ) (before after : ApicParts) (fires : Fires) : Type 0 where
  pub state : after ≡ passed_times n before
  pub count : fires.count ≡ fires_in before n
  pub few : fires.count ≤ n
  pub first : IsFirst (fires_in before) n fires.first
