use Rattle.std.proofs.Common.{◌≡◌, ◌+◌, ◌*◌, ◌-◌, ◌++◌, take, drop}
use Rattle.reply_text.specs.Words.{hex_text}
use Rattle.reply_text.proofs.digits.write_hex.Given as goal

abbrev pub invariant-loop : goal.invariant-loop
invariant-loop l =
    (l.at + 2 * l.counter ≡ l.end)
    × (hex_text (2 * (l.count - l.counter)) l.left ++ drop l.at l.buf ≡ hex_text (2 * l.count) l.n ++ drop l.end l.fn.buf)
    × (take l.at l.buf ≡ take l.at l.fn.buf)
