use Rattle.std.proofs.Common.{arith}
use Rattle.trace_text.proofs.Eights.{all_digits, fewer_digits}
use Rattle.trace_text.proofs.digits.eight_digits_at.Goals as goal

pub returns-then-others-eq0 : goal.returns-then-others-eq0
returns-then-others-eq0 c =
    all_digits c.args.line.now c.args.at c.word_at-word.result c.joined.result (λ j. (c.type_inv.line j).fits) c.requires
    c.word_at-word.ensures c.if-others-eq0.true c.joined.ensures

pub returns : goal.returns
returns c =
    let read = fewer_digits c.args.line.now c.args.at c.word_at-word.result c.joined-2.result (λ j. (c.type_inv.line j).fits) c.requires
    c.word_at-word.ensures (omega (arith, c.if-others-eq0.false)) c.joined-2.ensures in
    (omega arith, omega (arith, read.0), read.1)
