use Rattle.std.proofs.Common.{◌≡◌, ℕ, ◌+◌, ◌-◌, ◌*◌, ◌<◌, length, get_or, ap, ◌∙◌, arith}
use Rattle.std.specs.Char.{digit_value}
use Rattle.trace_text.proofs.Spells.{spelled-more, not_space}
use Rattle.trace_text.proofs.bytes.few_digits_apart.Goals as goal

pub returns-in-Some : goal.returns-in-Some
returns-in-Some c = λ some.
    let at : ℕ = c.args.at in
    let byte : ℕ = get_or c.args.line.now at 0 in
    let inside : at < length c.args.line.now = omega arith in
    let digit : digit_value byte ≡ c.decimal_digit_of-first.result = c.decimal_digit_of-first.ensures.digit (omega arith) in
    let small : digit_value byte < 10 = omega arith in
    let value : 0 * 10 + digit_value byte ≡ c.decimal_digit_of-first.result = omega arith in
    let count : at + 1 - at ≡ 0 + 1 = omega arith in
    let more = spelled-more 10 0 0 at c.args.line.now inside (not_space 10 byte (omega arith) small) small (omega arith) in
    let other : byte ≡ 48 → ⊥ = λ e. absurd (let value_of : digit_value byte ≡ 0 = ap digit_value e in omega arith) in
    (omega (arith, c.in-Some.ensures.0), c.in-Some.ensures.1, other, more ∙ rw value (rw count at c.in-Some.ensures.3))
