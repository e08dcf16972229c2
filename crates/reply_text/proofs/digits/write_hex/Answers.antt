use Rattle.std.proofs.Common.{◌≡◌, ℕ, ◌+◌, ◌*◌, ◌-◌, ◌≤◌, ◌++◌, take, drop, sym, ap, ◌∙◌, arith}
use Rattle.std.proofs.lemmas.List.{take-take}
use Rattle.reply_text.specs.Words.{hex_text}
use Rattle.reply_text.proofs.Hexes.{pair_step, hex_text-none}
use Rattle.reply_text.proofs.digits.write_hex.Goals as goal

pub loop-preserved : goal.loop-preserved
loop-preserved c =
    let left : ℕ = 2 * (c.args.count - c.loop.counter) in
    let step = pair_step left (2 * (c.args.count - (c.loop.counter + 1))) c.loop.left (drop c.loop.at c.loop.buf)
    (hex_text (2 * c.args.count) c.args.n ++ drop c.args.end c.args.buf.now) (omega arith) c.loop.invariant.1 in
    let at : ℕ = c.write_pair-at.result in
    let below : at ≤ c.loop.at = omega (arith, c.write_pair-at.ensures.start) in (
      omega (arith, c.write_pair-at.ensures.start),
      rw (c.write_pair-at.ensures.written) step,
      c.write_pair-at.ensures.before ∙ sym (take-take at c.loop.at c.loop.buf below) ∙ ap (take at) c.loop.invariant.2
          ∙ take-take at c.loop.at c.args.buf.now below,
    )

pub returns-clause-written : goal.returns-clause-written
returns-clause-written c =
    let none : 2 * (c.args.count - c.loop.counter) ≡ 0 = omega arith in
    hex_text-none (2 * (c.args.count - c.loop.counter)) c.loop.left (drop c.loop.at c.loop.buf) none ∙ c.loop.invariant.1
