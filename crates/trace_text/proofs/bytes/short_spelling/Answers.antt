use Rattle.std.proofs.Common.{◌≡◌, ℕ, ◌+◌, ◌-◌, ◌*◌, ◌^◌, ◌<◌, length, get_or, ◌∙◌, arith}
use Rattle.std.specs.Char.{digit_value}
use Rattle.trace_text.proofs.Spells.{spelled-space, spelled-ended, spelled-more, more_digits, digits_fit, not_space}
use Rattle.trace_text.proofs.bytes.short_spelling.Goals as goal

pub returns-then-byte-eq32 : goal.returns-then-byte-eq32
returns-then-byte-eq32 c =
    let i : ℕ = c.loop-i.i in
    let inside : i < length c.args.line.now = omega arith in
    let space =
    spelled-space c.args.base (i - c.args.at) c.loop-i.n i c.args.line.now inside c.if-byte-eq32.true in
    (omega arith, omega arith, omega arith, c.loop-i.invariant.0 ∙ space)

pub with_digit-n-requires : goal.with_digit-n-requires
with_digit-n-requires c =
    let k : ℕ = c.loop-i.i - c.args.at in
    let next = more_digits c.args.base c.loop-i.n k c.digit_in-digit.result c.requires.most c.if-digit-base.false c.loop-i.invariant.1 in
    omega (arith, next, digits_fit (k + 1) (omega arith))

pub loop-i-preserved : goal.loop-i-preserved
loop-i-preserved c =
    let i : ℕ = c.loop-i.i in
    let k : ℕ = i - c.args.at in
    let byte : ℕ = get_or c.args.line.now i 0 in
    let inside : i < length c.args.line.now = omega arith in
    let same : digit_value byte ≡ c.digit_in-digit.result = c.digit_in-digit.ensures.digit c.if-digit-base.false in
    let small : digit_value byte < c.args.base = omega arith in
    let total : ℕ = c.loop-i.n * c.args.base + digit_value byte in
    let value : c.with_digit-n.result ≡ total = omega (arith, c.with_digit-n.ensures) in
    let count : i + 1 - c.args.at ≡ k + 1 = omega arith in
    let below : total < 16 ^ (k + 1) =
    more_digits c.args.base c.loop-i.n k (digit_value byte) c.requires.most small c.loop-i.invariant.1 in
    let fits : total < 18446744073709551616 = omega (arith, digits_fit (k + 1) (omega arith)) in
    let more =
    spelled-more c.args.base k c.loop-i.n i c.args.line.now inside (not_space c.args.base byte c.requires.most small) small fits in
    (rw (count, value) (c.loop-i.invariant.0 ∙ more), rw (count, value) below)

pub returns : goal.returns
returns c =
    let i : c.loop-i.i ≡ c.min-last.result = omega arith in
    let space : c.loop-i.i < length c.args.line.now → get_or c.args.line.now c.loop-i.i 0 ≡ 32 = rw i c.if-not-ends_at.ensures in
    let ended = spelled-ended c.args.base (c.loop-i.i - c.args.at) c.loop-i.n c.loop-i.i c.args.line.now space in
    (omega arith, omega arith, omega arith, rw i at (c.loop-i.invariant.0 ∙ ended))
