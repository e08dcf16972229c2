use Rattle.std.proofs.Common.{inl, inr, arith}
use Rattle.std.proofs.lemmas.Bool.{cases_lt}
use Rattle.board_devices.proofs.found_up.timers_find_up.Goals as goal

pub returns-clause-edge : goal.returns-clause-edge
returns-clause-edge c = λ all k inside some. elim (cases_lt k c.loop-k.k) [
  | inl less ↦ c.loop-k.invariant.edge k less some
  | inr past ↦ absurd (omega (arith, some, c.requires.none k (omega (arith, past))))
]

pub returns-clause-timers : goal.returns-clause-timers
returns-clause-timers c = λ all k inside some ticks. elim (cases_lt k c.loop-k.k) [
  | inl less ↦ c.loop-k.invariant.timers k less some ticks
  | inr past ↦ absurd (omega (arith, some, c.requires.none k (omega (arith, past))))
]
