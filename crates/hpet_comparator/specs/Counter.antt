-- The main counter (IA-PC HPET specification 1.0a, section 2.3.7).
use Rattle.std.specs.Prelude.{ℕ, ◌+◌, ◌%◌, ◌^◌}

-- the counter n pulses on: it counts modulo 2^64 (2.3.7)
abbrev pub counter_after : ℕ → ℕ → ℕ
counter_after v n = (v + n) % 2 ^ 64
