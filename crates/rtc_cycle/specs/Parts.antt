-- The fields of the divider, and what holds of them.
use Rattle.std.specs.Prelude.{◌≡◌, ◌<◌, ◌≤◌, true, false, ◌⊎◌}
use Rattle.rtc_cycle.specs.declared.parts.DividerParts.{DividerParts}

-- what holds of the fields at all times
pub record IsDivider (p : DividerParts) : Type 0 where
  pub below : p.d < 32768
  -- other values of DV hold it in the middle of a second
  pub held : (p.dv ≡ 2) ⊎ (p.d ≡ 16384)
  -- a cycle is in progress only while the divider runs, with SET 0, at its first pulses
  pub in_cycle : p.cycle ≡ true → (p.dv ≡ 2) × (p.set ≡ false) × (p.d ≤ 64)
  pub dv : p.dv ≤ 7
  pub rs : p.rs ≤ 15

-- the fields at power on: DV 010 and rate 6, in the middle of a second (own)
abbrev pub divider_at_power_on : DividerParts
divider_at_power_on = record { d = 16384; cycle = false; dv = 2; rs = 6; set = false }
