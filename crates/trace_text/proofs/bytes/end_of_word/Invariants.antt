use Rattle.std.proofs.Common.{◌≡◌, ◌+◌, drop}
use Rattle.trace_text.specs.private.Spelled.{after_word}
use Rattle.trace_text.proofs.bytes.end_of_word.Given as goal

abbrev pub invariant-loop-i : goal.invariant-loop-i
invariant-loop-i l =
    after_word l.name (drop l.at l.line) ≡ after_word (drop l.i l.name) (drop (l.at + l.i) l.line)
