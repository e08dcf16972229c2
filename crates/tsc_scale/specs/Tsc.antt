-- A guest's TSC and its register TSC_ADJUST, all modulo 2^64.
use Rattle.std.specs.Prelude.{ℕ, ◌+◌, ◌-◌, ◌%◌, ◌^◌}
use Rattle.tsc_scale.specs.declared.Tsc.{Tsc}
use Rattle.tsc_scale.specs.Offset.{tsc_by}

-- the TSC at count h of the host's counter
abbrev pub tsc_at : Tsc → ℕ → ℕ → ℕ
tsc_at tsc h ratio = tsc_by tsc.offset h ratio

-- how far one number lies above another
abbrev pub difference : ℕ → ℕ → ℕ
difference above below = (above + (2 ^ 64 - below)) % 2 ^ 64

-- the TSC and TSC_ADJUST, both moved on by a distance: the manual's "Time-Stamp Counter Adjustment"
abbrev pub moved_by : ℕ → Tsc → Tsc
moved_by distance tsc = record {
  offset = (tsc.offset + distance) % 2 ^ 64;
  adjust = (tsc.adjust + distance) % 2 ^ 64;
}
