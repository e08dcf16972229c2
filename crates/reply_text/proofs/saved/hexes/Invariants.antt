use Rattle.std.proofs.Common.{◌≡◌, length}
use Rattle.reply_text.proofs.Hexes.{AreDigits}
use Rattle.reply_text.proofs.saved.hexes.Given as goal

abbrev pub invariant-loop-k : goal.invariant-loop-k
invariant-loop-k l = (length l.text ≡ 128) × AreDigits l.piece l.text l.k
