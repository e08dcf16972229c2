-- A shift to the right that leaves nothing where it is too wide.
use Rattle.std.proofs.Common.{◌≡◌, ℕ, ◌*◌, ◌/◌, ◌%◌, ◌^◌, ap, ◌∙◌, arith}
use Rattle.pvclock_page.proofs.Shifts.{right_wide}
use Rattle.pvclock_page.proofs.time.elapsed_right.Goals as goal

pub returns : goal.returns
returns c =
    let ticks : c.unwrap_or-ticks.result ≡ c.args.delta / 2 ^ c.args.shift =
    c.unwrap_or-ticks.ensures ∙ right_wide c.args.delta c.args.shift c.checked_shr.result (omega arith) c.checked_shr.ensures in
    rw (c.low_word.ensures, c.from-2.ensures) (ap (λ (n : ℕ). n * c.args.mul / 2 ^ 32 % 2 ^ 64) (c.from.ensures ∙ ticks))
