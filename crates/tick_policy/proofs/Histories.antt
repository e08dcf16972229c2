-- Lemmas on lists of events.
use Rattle.std.proofs.Common.{◌≡◌, ◌+◌, ◌≤◌, refl, arith}
use Rattle.tick_policy.specs.declared.history.Event.{Event}
use Rattle.tick_policy.specs.declared.history.Event.TheVariants.{Tick, Acknowledgement, CatchUpPoint}
use Rattle.tick_policy.specs.declared.parts.TickParts.{TickParts}
use Rattle.tick_policy.specs.History.{after_event, tick_of}

-- an event keeps the policy
pub policy-after_event : (e : Event) (l : TickParts) → (after_event e l).policy ≡ l.policy
policy-after_event Tick l = refl
policy-after_event Acknowledgement l = refl
policy-after_event CatchUpPoint l = refl

-- a tick alone is due
pub due-after_event : (e : Event) (l : TickParts) → (after_event e l).counts.due ≡ l.counts.due + tick_of e
due-after_event Tick l = refl
due-after_event Acknowledgement l = omega arith
due-after_event CatchUpPoint l = omega arith

-- an event is one tick at most
pub tick_of-le : (e : Event) → tick_of e ≤ 1
tick_of-le Tick = omega arith
tick_of-le Acknowledgement = omega arith
tick_of-le CatchUpPoint = omega arith
