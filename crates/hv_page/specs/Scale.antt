-- The scale of a TSC: TLFS, "Reference TSC page", TscScale.
use Rattle.std.specs.Prelude.{ℕ, ◌*◌, ◌/◌, ◌^◌}

-- units of 100 ns for 2^64 ticks of a TSC of so many kHz, of which 10000 make a millisecond
unfoldable pub tsc_scale : ℕ → ℕ
tsc_scale khz = 10000 * 2 ^ 64 / khz
