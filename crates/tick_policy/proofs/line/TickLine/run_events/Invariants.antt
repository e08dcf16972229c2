use Rattle.std.proofs.Common.{◌≡◌, ◌+◌, ◌≤◌, drop}
use Rattle.tick_policy.specs.History.{after_events, ticks_of}
use Rattle.tick_policy.proofs.line.TickLine.run_events.Given as goal

abbrev pub invariant-loop-event : goal.invariant-loop-event
invariant-loop-event l = record {
  state : after_events (drop l.event-index l.events) l.self ≡ after_events l.events l.initial.self;
  policy : l.self.policy ≡ l.initial.self.policy;
  due : l.self.counts.due + ticks_of (drop l.event-index l.events) ≡ l.initial.self.counts.due + ticks_of l.events;
  room : l.self.counts.due ≤ l.initial.self.counts.due + l.event-index;
}
