-- A tick line over any list of events.
use Rattle.std.specs.Prelude.{ℕ, ◌+◌, List, [], ◌∷◌}
use Rattle.tick_policy.specs.declared.history.Event.{Event}
use Rattle.tick_policy.specs.declared.history.Event.TheVariants.{Tick, Acknowledgement}
use Rattle.tick_policy.specs.declared.history.Event.TheVariants.{CatchUpPoint}
use Rattle.tick_policy.specs.declared.parts.TickParts.{TickParts}
use Rattle.tick_policy.specs.Line.{ticked, acked, caught_up}

-- the line after an event
abbrev pub after_event : Event → TickParts → TickParts
after_event Tick l = ticked l
after_event Acknowledgement l = acked l
after_event CatchUpPoint l = caught_up l

-- the line after events, one after the other
abbrev pub after_events : List Event → TickParts → TickParts
after_events [] l = l
after_events (e ∷ es) l = after_events es (after_event e l)

-- how many of the events are ticks
abbrev pub tick_of : Event → ℕ
tick_of Tick = 1
tick_of Acknowledgement = 0
tick_of CatchUpPoint = 0

abbrev pub ticks_of : List Event → ℕ
ticks_of [] = 0
ticks_of (e ∷ es) = tick_of e + ticks_of es
