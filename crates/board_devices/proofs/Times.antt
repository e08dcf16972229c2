-- The time of a catch-up point.
use Rattle.std.proofs.Common.{ℕ, ◌+◌, ◌*◌, ◌/◌, ◌≤◌, arith}
use Rattle.std.proofs.Math.Nat.{div-mul-le_self}

pub point_fits : (from slew : ℕ) → (from / slew + 1) * slew ≤ from + slew
point_fits from slew = let below : from / slew * slew ≤ from = div-mul-le_self from slew in omega arith
