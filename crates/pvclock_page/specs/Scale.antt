-- The scale of a TSC: a multiplier in 2^-32ths of a nanosecond, and a shift to the left.
use Rattle.std.specs.Prelude.{◌≡◌, ℕ, ℤ, pos, negsuc, ◌+◌, ◌*◌, ◌/◌, ◌^◌, ◌<◌, ◌≤◌, nat_le}
use Rattle.std.specs.Prelude.{if◌then◌else◌}

-- the multiplier that goes with a shift: 10^9 * 2^(32 - shift) / hz, rounded down
abbrev pub mul_at : ℕ → ℤ → ℕ
mul_at hz (pos n) = 1000000000 * 2 ^ 32 / (hz * 2 ^ n)
mul_at hz (negsuc n) = 1000000000 * 2 ^ (32 + (n + 1)) / hz

-- the scale of a TSC of hz ticks a second: the multiplier fills its 32 bits
pub record IsScale (hz mul : ℕ) (shift : ℤ) : Type 0 where
  pub value : mul ≡ mul_at hz shift
  pub least : 2 ^ 31 ≤ mul
  pub most : mul < 2 ^ 32

-- the shift of that scale, by the rate: one bit less for each doubling beyond 125 MHz
unfoldable pub shift_for : ℕ → ℤ
shift_for hz =
    if nat_le hz 125000000 then pos 4 else
    (if nat_le hz 250000000 then pos 3 else
    (if nat_le hz 500000000 then pos 2 else
    (if nat_le hz 1000000000 then pos 1 else
    (if nat_le hz 2000000000 then pos 0 else
    (if nat_le hz 4000000000 then negsuc 0 else
    (if nat_le hz 8000000000 then negsuc 1 else negsuc 2))))))

-- and its multiplier
unfoldable pub mul_for : ℕ → ℕ
mul_for hz = mul_at hz (shift_for hz)
