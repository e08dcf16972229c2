-- The widest multiplier has 32 to 39 bits, and is shifted until it has 32.
use Rattle.std.proofs.Common.{◌≡◌, ℕ, pos, ◌≤◌, ◌-◌, ◌/◌, ◌+ℤ◌, ◌-ℤ◌, w8, to_z, of_z, arith}
use Rattle.std.proofs.lemmas.Int.{ints}
use Rattle.std.specs.Int.Count.{count_leading_zeros}
use Rattle.pvclock_page.proofs.Scales.{filled, widest_bounds, IsScale-filled, IsScale-mul_for, IsScale-one}
use Rattle.pvclock_page.proofs.scale.scale_of.Goals as goal

pub overflow_sub-surplus_bits : goal.overflow_sub-surplus_bits
overflow_sub-surplus_bits c =
    let bounds = widest_bounds c.args.hz c.requires.slow c.requires.fast in
    let full = filled _ bounds.0 bounds.1 in
    rw c.from.ensures full.1

pub overflow_cast-result-2 : goal.overflow_cast-result-2
overflow_cast-result-2 c =
    let bounds = widest_bounds c.args.hz c.requires.slow c.requires.fast in
    let full = filled _ bounds.0 bounds.1 in
    rw c.from.ensures (omega (arith, full.3))

-- the shift for so many bits
shift_place : (n : ℕ) → n ≤ 7 → to_z w8 (of_z w8 (to_z w8 n -ℤ pos 3)) +ℤ pos 3 ≡ pos n
shift_place n few = omega (arith, ints)

pub returns-clause-scale : goal.returns-clause-scale
returns-clause-scale c =
    let bounds = widest_bounds c.args.hz c.requires.slow c.requires.fast in
    let full = filled _ bounds.0 bounds.1 in
    rw c.from.ensures (IsScale-filled c.args.hz _ c.requires.slow c.requires.fast
    (shift_place (32 - count_leading_zeros 64 (34359738368000000000 / c.args.hz)) (omega (arith, full.0))))

pub returns-clause-only : goal.returns-clause-only
returns-clause-only c =
    λ mul shift s. IsScale-one c.args.hz mul _ shift _ (omega arith) s (returns-clause-scale c)

pub returns-clause-mul : goal.returns-clause-mul
returns-clause-mul c =
    (IsScale-one c.args.hz _ _ _ _ (omega arith) (returns-clause-scale c) (IsScale-mul_for c.args.hz c.requires.slow c.requires.fast)).0

pub returns-clause-shift : goal.returns-clause-shift
returns-clause-shift c =
    (IsScale-one c.args.hz _ _ _ _ (omega arith) (returns-clause-scale c) (IsScale-mul_for c.args.hz c.requires.slow c.requires.fast)).1
