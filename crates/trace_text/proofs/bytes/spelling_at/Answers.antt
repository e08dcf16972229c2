use Rattle.std.proofs.Common.{◌≡◌, ℕ, ◌+◌, ◌-◌, ◌*◌, ◌<◌, ◌≤◌, length, get_or, ◌∙◌, inl, inr, arith}
use Rattle.std.proofs.lemmas.Bool.{cases_lt}
use Rattle.std.specs.Char.{digit_value}
use Rattle.trace_text.proofs.Spells.{spelled-space, spelled-end, spelled-no_digit, spelled-too_large, spelled-more}
use Rattle.trace_text.proofs.bytes.spelling_at.Goals as goal

pub returns-then-byte-eq32 : goal.returns-then-byte-eq32
returns-then-byte-eq32 c =
    let i : ℕ = c.loop-i.i in
    let space =
    spelled-space c.args.base (i - c.args.at) c.loop-i.n i c.args.line.now c.loop-i-test.true c.if-byte-eq32.true in
    (omega arith, omega arith, c.loop-i.invariant ∙ space)

pub returns-then-digit-base : goal.returns-then-digit-base
returns-then-digit-base c =
    let i : ℕ = c.loop-i.i in
    let large = c.digit_in-digit.ensures.none c.if-digit-base.true in
    c.loop-i.invariant
    ∙ spelled-no_digit c.args.base (i - c.args.at) c.loop-i.n i c.args.line.now c.loop-i-test.true c.if-byte-eq32.false large

pub returns-in_err-n : goal.returns-in_err-n
returns-in_err-n c =
    let i : ℕ = c.loop-i.i in
    let digit : ℕ = digit_value (get_or c.args.line.now i 0) in
    let same : digit ≡ c.digit_in-digit.result = c.digit_in-digit.ensures.digit c.if-digit-base.false in
    let small : digit < c.args.base = omega arith in
    let total : ℕ = c.loop-i.n * c.args.base + digit in
    let large : 18446744073709551616 ≤ total = elim (cases_lt total 18446744073709551616) [
      | inl less ↦ absurd (c.in_err-n.ensures (omega arith))
      | inr ge ↦ ge
    ] in
    rw c.from_residual.ensures
    (c.loop-i.invariant
    ∙ spelled-too_large c.args.base (i - c.args.at) c.loop-i.n i c.args.line.now c.loop-i-test.true c.if-byte-eq32.false small large)

pub loop-i-preserved : goal.loop-i-preserved
loop-i-preserved c =
    let i : ℕ = c.loop-i.i in
    let digit : ℕ = digit_value (get_or c.args.line.now i 0) in
    let same : digit ≡ c.digit_in-digit.result = c.digit_in-digit.ensures.digit c.if-digit-base.false in
    let small : digit < c.args.base = omega arith in
    let total : ℕ = c.loop-i.n * c.args.base + digit in
    let value : c.in_ok-n.n ≡ total = omega (arith, c.in_ok-n.ensures.1) in
    let fits : total < 18446744073709551616 = omega (arith, c.in_ok-n.ensures.0) in
    let count : i + 1 - c.args.at ≡ i - c.args.at + 1 = omega arith in
    rw (count, value)
    (c.loop-i.invariant
    ∙ spelled-more c.args.base (i - c.args.at) c.loop-i.n i c.args.line.now c.loop-i-test.true c.if-byte-eq32.false small fits)

pub returns : goal.returns
returns c =
    let i : c.loop-i.i ≡ length c.args.line.now = omega arith in
    let ended =
    spelled-end c.args.base (c.loop-i.i - c.args.at) c.loop-i.n c.loop-i.i c.args.line.now (omega arith) in
    (omega arith, omega arith, rw i at (c.loop-i.invariant ∙ ended))
