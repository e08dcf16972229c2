use Rattle.std.proofs.Common.{◌≡◌, ◌-◌, drop}
use Rattle.trace_text.specs.private.Spelled.{spelled}
use Rattle.trace_text.proofs.bytes.spelling_at.Given as goal

abbrev pub invariant-loop-i : goal.invariant-loop-i
invariant-loop-i l =
    spelled l.base 0 0 (drop l.at l.line)
    ≡ spelled l.base (l.i - l.at) l.n (drop l.i l.line)
