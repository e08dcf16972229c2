use Rattle.std.proofs.Common.{◌≡◌, ℕ, ◌+◌, ◌-◌, arith}
use Rattle.trace_text.proofs.Eights.{power_of, two_words}
use Rattle.trace_text.proofs.digits.long_number_apart.Goals as goal

pub returns-else-not-ends_at : goal.returns-else-not-ends_at
returns-else-not-ends_at c = λ some.
    let at : ℕ = c.args.at in
    let end : at + 8 + 8 ≡ at + 16 = omega arith in
    let digits : at + 16 - (at + 8) ≡ 8 = omega arith in
    let more = rw end at c.in-Eight.ensures in
    let spelt = rw digits at (two_words c.args.line.now at (at + 16) c.args.read c.in-Eight.more (omega arith) (omega arith) c.requires.read more
    c.if-not-ends_at.ensures) in
    (omega arith, omega arith, spelt)

pub returns-else-line-fewer-ne32 : goal.returns-else-line-fewer-ne32
returns-else-line-fewer-ne32 c = λ some.
    let at : ℕ = c.args.at in
    let end : ℕ = c.in-Fewer.fewer.end in
    let fewer = c.in-Fewer.ensures in
    let power = power_of (end - (at + 8)) (omega (arith, fewer.1)) in
    let spelt = two_words c.args.line.now at end c.args.read c.in-Fewer.fewer.value fewer.0 (omega (arith, fewer.1)) c.requires.read fewer.2
    (λ inside. c.if-line-fewer-ne32.false) in
    (omega (arith, fewer.0), omega (arith, fewer.1), rw power spelt)
