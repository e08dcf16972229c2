use Rattle.std.proofs.Common.{◌<◌, length, arith}
use Rattle.trace_text.proofs.Spells.{one_digit}
use Rattle.trace_text.proofs.bytes.one_digit_at.Goals as goal

pub returns-then-digit-lt10 : goal.returns-then-digit-lt10
returns-then-digit-lt10 c =
    let inside : c.args.at < length c.args.line.now = omega arith in
    let digit = c.decimal_digit_of-digit.ensures.digit c.if-digit-lt10.true in
    let spelt =
    one_digit 10 c.args.at c.decimal_digit_of-digit.result c.args.line.now (omega arith) digit c.if-digit-lt10.true inside
    c.if-not-ends_at.ensures in
    (omega arith, spelt)
