use Rattle.std.proofs.Common.{◌≡◌, ◌+◌, ◌≤◌, ◌++◌, length, vec_len, vec_capacity}
use Rattle.std.specs.Io.{StartsWith}
use Rattle.reply_text.specs.Words.{hexes}
use Rattle.reply_text.proofs.saved.append_hexes.Given as goal

abbrev pub invariant-loop-piece : goal.invariant-loop-piece
invariant-loop-piece l =
    (l.out.items ++ hexes l.left ≡ l.fn.out.items ++ hexes l.bytes)
    × (vec_len l.out + length (hexes l.left) ≡ vec_len l.fn.out + length (hexes l.bytes))
    × (vec_capacity l.fn.out ≤ vec_capacity l.out)
    × (StartsWith l.out.items l.fn.out.items)

abbrev pub decreases-loop-piece : goal.decreases-loop-piece
decreases-loop-piece l = length l.left
