-- A whole write is a write of each half.
use Rattle.std.proofs.Common.{◌≡◌, ℕ, ◌/◌, ◌%◌, ◌^◌, Bool, true, false, arith}
use Rattle.hpet_comparator.specs.Part.{part_written}

-- the low half first, then the high one
pub part_written-halves : (high : Bool) (v old : ℕ)
    → part_written 8 high v old ≡ part_written 4 true (v / 2 ^ 32) (part_written 4 false (v % 2 ^ 32) old)
part_written-halves high v old = omega arith
