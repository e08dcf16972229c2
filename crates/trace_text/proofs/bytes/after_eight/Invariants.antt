use Rattle.std.proofs.Common.{◌≡◌, ◌+◌, ◌^◌, ◌<◌, drop}
use Rattle.trace_text.specs.private.Spelled.{spelled}
use Rattle.trace_text.proofs.bytes.after_eight.Given as goal

abbrev pub invariant-loop-k : goal.invariant-loop-k
invariant-loop-k l =
    (spelled 10 0 0 (drop l.at l.line) ≡ spelled 10 l.k l.n (drop (l.at + l.k) l.line))
    × (l.n < 16 ^ l.k)
