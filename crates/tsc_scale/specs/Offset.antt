-- A guest's TSC by its offset, modulo 2^64.
use Rattle.std.specs.Prelude.{ℕ, ◌+◌, ◌*◌, ◌/◌, ◌%◌, ◌^◌}

-- the TSC at count h of the host's counter: Intel's manual, volume 3, "use TSC scaling"
unfoldable pub tsc_by : ℕ → ℕ → ℕ → ℕ
tsc_by offset h ratio = (h * ratio / 2 ^ 48 + offset) % 2 ^ 64
