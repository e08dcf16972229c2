use Rattle.std.proofs.Common.{◌≡◌, ℕ, ◌+◌, ◌-◌, ◌<◌, length, ◌∙◌, arith}
use Rattle.trace_text.proofs.Spells.{decimal_more, digits_fit, spelled-space, spelled-ended}
use Rattle.trace_text.proofs.Eights.{eight_first}
use Rattle.trace_text.proofs.bytes.after_eight.Goals as goal

pub returns-then-line-at-eq32 : goal.returns-then-line-at-eq32
returns-then-line-at-eq32 c =
    let at : ℕ = c.args.at in
    let eight = eight_first c.args.line.now at c.args.read c.requires.read in
    let count : at + 8 - at ≡ 8 = omega arith in
    let space = spelled-space 10 8 c.args.read (at + 8) c.args.line.now (omega arith) c.if-line-at-eq32.true in
    (omega arith, omega arith, rw count (eight.0 ∙ space))

pub loop-k-init : goal.loop-k-init
loop-k-init c = eight_first c.args.line.now c.args.at c.args.read c.requires.read

pub returns-then-byte-eq32 : goal.returns-then-byte-eq32
returns-then-byte-eq32 c =
    let at : ℕ = c.args.at in
    let k : ℕ = c.loop-k.k in
    let inside : at + k < length c.args.line.now = omega arith in
    let count : at + k - at ≡ k = omega arith in
    let space = spelled-space 10 k c.loop-k.n (at + k) c.args.line.now inside c.if-byte-eq32.true in
    (omega arith, omega arith, rw count (c.loop-k.invariant.0 ∙ space))

pub with_digit-n-requires : goal.with_digit-n-requires
with_digit-n-requires c =
    let digit = c.decimal_digit_of-digit.ensures.digit (omega arith) in
    let more = decimal_more c.args.at c.loop-k.k c.loop-k.n c.decimal_digit_of-digit.result c.args.line.now (omega arith) (omega arith) digit
    (omega arith) c.loop-k.invariant.1 in
    omega (arith, more.1, digits_fit (c.loop-k.k + 1) (omega arith))

pub loop-k-preserved : goal.loop-k-preserved
loop-k-preserved c =
    let digit = c.decimal_digit_of-digit.ensures.digit (omega arith) in
    let more = decimal_more c.args.at c.loop-k.k c.loop-k.n c.decimal_digit_of-digit.result c.args.line.now (omega arith) (omega arith) digit
    (omega arith) c.loop-k.invariant.1 in
    (rw c.with_digit-n.ensures (c.loop-k.invariant.0 ∙ more.0), rw c.with_digit-n.ensures more.1)

pub returns-then-ends_at : goal.returns-then-ends_at
returns-then-ends_at c =
    let at : ℕ = c.args.at in
    let k : c.loop-k.k ≡ 12 = omega arith in
    let count : at + 12 - at ≡ 12 = omega arith in
    let read = rw k at c.loop-k.invariant.0 in
    (omega arith, omega arith, rw count (read ∙ spelled-ended 10 12 c.loop-k.n (at + 12) c.args.line.now c.if-ends_at.ensures))
