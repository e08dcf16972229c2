use Rattle.std.proofs.Common.{◌≡◌, ◌+◌, get_or, drop, ◌∙◌, arith, sym}
use Rattle.std.proofs.lemmas.List.{at_drop_more}
use Rattle.tick_policy.specs.declared.history.Event.{Event}
use Rattle.tick_policy.specs.declared.history.Event.TheVariants.{Tick}
use Rattle.tick_policy.specs.History.{after_event, after_events, tick_of, ticks_of}
use Rattle.tick_policy.proofs.Histories.{policy-after_event, due-after_event, tick_of-le}
use Rattle.tick_policy.proofs.line.TickLine.run_events.Goals as goal

pub loop-event-preserved : goal.loop-event-preserved
loop-event-preserved c =
    let es = c.args.events.now in
    let i = c.loop-event.event-index in
    let l = c.loop-event.self in
    let event : Event = get_or es i Tick in
    let states : after_events (drop i es) l ≡ after_events (drop (i + 1) es) (after_event event l) =
    at_drop_more (λ xs. after_events xs l) es i Tick c.loop-event-test.true in
    let ticks : ticks_of (drop i es) ≡ tick_of event + ticks_of (drop (i + 1) es) = at_drop_more ticks_of es i Tick c.loop-event-test.true in
    rw c.run_event.ensures
    record {
      state = sym states ∙ c.loop-event.invariant.state;
      policy = policy-after_event event l ∙ c.loop-event.invariant.policy;
      due = omega (arith, due-after_event event l, ticks, c.loop-event.invariant.due);
      room = omega (arith, due-after_event event l, tick_of-le event, c.loop-event.invariant.room);
    }
