-- A shift to the left, after the product.
use Rattle.std.proofs.Common.{ℕ, ◌%◌, ◌^◌, ◌≤◌, ap, ◌∙◌, arith}
use Rattle.std.proofs.Math.Pow.{mod-mod-pow}
use Rattle.pvclock_page.proofs.Shifts.{left_short, left_long}
use Rattle.pvclock_page.proofs.time.elapsed_left.Goals as goal

pub returns-then-shift-lt-FRACTION_BITS : goal.returns-then-shift-lt-FRACTION_BITS
returns-then-shift-lt-FRACTION_BITS c =
    let short : c.args.shift ≤ 32 = omega arith in
    rw (c.low_word.ensures, c.from.ensures, c.from-2.ensures) (ap (λ (n : ℕ). n % 2 ^ 64) (left_short c.args.delta c.args.mul c.args.shift short))

pub returns-else-shift-lt-FRACTION_BITS : goal.returns-else-shift-lt-FRACTION_BITS
returns-else-shift-lt-FRACTION_BITS c =
    rw (c.low_word-else-shift-lt-FRACTION_BITS.ensures, c.from.ensures, c.from-2.ensures)
    (mod-mod-pow _ 64 64 ∙ ap (λ (n : ℕ). n % 2 ^ 64) (left_long c.args.delta c.args.mul c.args.shift c.if-shift-lt-FRACTION_BITS.false))
