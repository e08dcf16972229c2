use Rattle.std.proofs.Common.{◌≡◌, ◌-◌, ◌^◌, ◌<◌, drop}
use Rattle.trace_text.specs.private.Spelled.{spelled}
use Rattle.trace_text.proofs.bytes.short_spelling.Given as goal

abbrev pub invariant-loop-i : goal.invariant-loop-i
invariant-loop-i l =
    (spelled l.base (l.from - l.at) l.read (drop l.from l.line) ≡ spelled l.base (l.i - l.at) l.n (drop l.i l.line))
    × (l.n < 16 ^ (l.i - l.at))
