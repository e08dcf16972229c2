use Rattle.std.proofs.Common.{◌≡◌, ℕ, ◌+◌, ◌-◌, ◌*◌, ◌<◌, length, get_or, ◌∙◌, arith}
use Rattle.std.specs.Char.{digit_value}
use Rattle.trace_text.proofs.Spells.{spelled-more, not_space}
use Rattle.trace_text.proofs.bytes.hexadecimal_at.Goals as goal

pub returns : goal.returns
returns c =
    let at : ℕ = c.args.at in
    let byte : ℕ = get_or c.args.line.now at 0 in
    let inside : at < length c.args.line.now = omega arith in
    let digit : digit_value byte ≡ c.digit_of-first.result = c.digit_of-first.ensures.digit (omega arith) in
    let small : digit_value byte < 16 = omega arith in
    let value : 0 * 16 + digit_value byte ≡ c.digit_of-first.result = omega arith in
    let count : at + 1 - at ≡ 0 + 1 = omega arith in
    let more = spelled-more 16 0 0 at c.args.line.now inside (not_space 16 byte (omega arith) small) small (omega arith) in (
      omega (arith, c.in_ok-spelling.ensures.0),
      c.in_ok-spelling.ensures.1,
      c.in_ok-spelling.ensures.2,
      more ∙ rw value (rw count at c.in_ok-spelling.ensures.3),
    )
