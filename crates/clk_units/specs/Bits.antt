-- A bit of a number, by its place.
use Rattle.std.specs.Prelude.{ℕ, ◌/◌, ◌%◌, ◌^◌, Bool, ◌==◌, if◌then◌else◌}

-- whether bit k of n is 1; the lowest is bit 0
abbrev pub bit : ℕ → ℕ → Bool
bit k n = n / 2 ^ k % 2 == 1

-- the number of a bit at its place
abbrev pub bit_value : Bool → ℕ → ℕ
bit_value b k = if b then 2 ^ k else 0
