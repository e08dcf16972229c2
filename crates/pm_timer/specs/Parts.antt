-- The fields of the power management timer, and what holds of them. Sections are those of the ACPI
-- specification, version 6; (own) marks what it leaves open and this project chose.
use Rattle.std.specs.Prelude.{◌≡◌, ℕ, ◌<◌, ◌^◌, Bool, false, ◌||◌, ◌==◌, IsTrue}
use Rattle.pm_timer.specs.declared.parts.PmParts.{PmParts}

-- the bits of a count: 24 or 32 (4.8.3.3), and 0 where there is no timer (own)
abbrev pub is_pm_bits : ℕ → Bool
is_pm_bits bits = bits == 0 || bits == 24 || bits == 32

-- what holds of the fields at all times
pub record IsPmTimer (p : PmParts) : Type 0 where
  pub bits : IsTrue (is_pm_bits p.bits)
  pub count : p.count < 2 ^ p.bits
  -- where there is no timer all fields are 0 (own)
  pub no_status : p.bits ≡ 0 → p.status ≡ false
  pub no_enable : p.bits ≡ 0 → p.enable ≡ false

-- the fields at power on: STATUS and ENABLE are 0, and the count is the caller's (own)
abbrev pub pm_at_power_on : ℕ → ℕ → PmParts
pm_at_power_on bits count = record { bits = bits; count = count; status = false; enable = false }
