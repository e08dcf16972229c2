use Rattle.std.proofs.Common.{◌≡◌, ℕ, ◌<◌, length, get_or, ap, inl, inr, arith}
use Rattle.std.proofs.lemmas.Bool.{cases_lt}
use Rattle.std.specs.Char.{digit_value}
use Rattle.trace_text.proofs.Eights.{fewer_first}
use Rattle.trace_text.proofs.bytes.decimal_at.Goals as goal

pub returns-then-line-fewer-eq32 : goal.returns-then-line-fewer-eq32
returns-then-line-fewer-eq32 c =
    let at : ℕ = c.args.at in
    let end : ℕ = c.in-Fewer.fewer.end in
    let first : ℕ = get_or c.args.line.now at 0 in
    let read = c.in-Fewer.ensures in
    let digit : digit_value first ≡ c.decimal_digit_of-first.result = c.decimal_digit_of-first.ensures.digit (omega arith) in
    let other : first ≡ 48 → ⊥ = λ e. absurd (let value_of : digit_value first ≡ 0 = ap digit_value e in omega arith) in
    let inside : end < length c.args.line.now = omega (arith, read.1) in
    let later : at < end = elim (cases_lt at end) [
      | inl less ↦ less
      | inr ge ↦ absurd (
          let same : end ≡ at = omega (arith, read.0) in
          let space : first ≡ 32 = rw same at c.if-line-fewer-eq32.true in
          let value_of : digit_value first ≡ 36 = ap digit_value space in
          omega arith)
    ] in (
      later,
      omega arith,
      other,
      fewer_first c.args.line.now at end c.in-Fewer.fewer.value read.0 read.1 inside read.2 c.if-line-fewer-eq32.true,
    )

pub returns : goal.returns
returns c =
    let first : ℕ = get_or c.args.line.now c.args.at 0 in
    let digit : digit_value first ≡ c.decimal_digit_of-first.result = c.decimal_digit_of-first.ensures.digit (omega arith) in
    let other : first ≡ 48 → ⊥ = λ e. absurd (let value_of : digit_value first ≡ 0 = ap digit_value e in omega arith) in
    (c.in_ok-spelling.ensures.0, c.in_ok-spelling.ensures.1, other, c.in_ok-spelling.ensures.2)
