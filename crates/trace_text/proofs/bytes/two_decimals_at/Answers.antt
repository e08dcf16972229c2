use Rattle.std.proofs.Common.{◌≡◌, ℕ, get_or, ap, arith}
use Rattle.std.specs.Char.{digit_value}
use Rattle.trace_text.proofs.Spells.{two_digits}
use Rattle.trace_text.proofs.bytes.two_decimals_at.Goals as goal

pub returns : goal.returns
returns c =
    let high = c.decimal_digit_of-high.ensures.digit (omega arith) in
    let low = c.decimal_digit_of-low.ensures.digit (omega arith) in
    let byte : ℕ = get_or c.args.line.now c.args.at 0 in
    let other : byte ≡ 48 → ⊥ = λ e. absurd (let value_of : digit_value byte ≡ 0 = ap digit_value e in omega arith) in
    let spelt =
    two_digits 10 c.args.at c.decimal_digit_of-high.result c.decimal_digit_of-low.result c.args.line.now (omega arith) high (omega arith) low
    (omega arith) (omega arith) (omega arith) c.if-not-ends_at.ensures in
    (omega arith, other, spelt)
