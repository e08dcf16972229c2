use Rattle.std.proofs.Common.{arith}
use Rattle.trace_text.proofs.Spells.{two_digits}
use Rattle.trace_text.proofs.bytes.two_digits_at.Goals as goal

pub returns-then-low-lt16 : goal.returns-then-low-lt16
returns-then-low-lt16 c =
    let h = c.digit_of-high.ensures.digit c.if-high-lt16.true in
    let l = c.digit_of-low.ensures.digit c.if-low-lt16.true in
    let spelt =
    two_digits 16 c.args.at c.digit_of-high.result c.digit_of-low.result c.args.line.now (omega arith) h c.if-high-lt16.true l
    c.if-low-lt16.true (omega arith) (omega arith) c.if-not-ends_at.ensures in
    (omega arith, spelt)
