-- The range of rates (own).
use Rattle.std.specs.Prelude.{ℕ, ◌≤◌}
use Rattle.clk_units.specs.declared.ranges.TheConstants.{KHZ_MIN, KHZ_MAX}

-- the rate of a counter of a host or a guest, in kHz: 100 MHz to 10 GHz
pub record IsKhz (khz : ℕ) : Type 0 where
  pub slow : KHZ_MIN ≤ khz
  pub fast : khz ≤ KHZ_MAX
