use Rattle.std.proofs.Common.{◌≡◌, ◌+◌, ◌*◌, ◌≤◌, ◌++◌, [], ◌∷◌, drop, length}
use Rattle.std.specs.List.{items_where_true}
use Rattle.irq_edges.specs.Lines.{line_numbers}
use Rattle.reply_text.proofs.Ups.{is_some_up, joined}
use Rattle.reply_text.proofs.ends.up_tail.Given as goal

abbrev pub invariant-loop-place : goal.invariant-loop-place
invariant-loop-place l =
    (l.tail ≡ joined (items_where_true (drop l.place l.levels) (drop l.place line_numbers)) ++ 10 ∷ [])
    × (l.found ≡ is_some_up (items_where_true (drop l.place l.levels) (drop l.place line_numbers)))
    × (length l.tail + 4 * l.place ≤ 25)
