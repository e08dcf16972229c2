-- The ratio of a guest's rate to its host's.
use Rattle.std.specs.Prelude.{ℕ, ◌*◌, ◌/◌, ◌^◌}

-- guest to host, rounded down, in 2^-48ths: the TSC multiplier of VMX
abbrev pub ratio_of : ℕ → ℕ → ℕ
ratio_of guest_khz host_khz = guest_khz * 2 ^ 48 / host_khz
