use Rattle.std.proofs.Common.{inl, inr, subst, ◌∙◌}
use Rattle.trace_loop.specs.Text.{memory_fault_text}
use Rattle.trace_runner.specs.Free.{IsFree}
use Rattle.trace_runner.specs.Race.{thread_fault_text}
use Rattle.trace_runner.specs.Trace.{TraceRead}
use Rattle.trace_runner.proofs.Alone.{prints_plain}
use Rattle.trace_runner.proofs.race.write.Goals as goal

pub returns-in-Ok-clause-alone : goal.returns-in-Ok-clause-alone
returns-in-Ok-clause-alone g c = λ one.
    let t : TraceRead = c.args.trace.now in
    let free : IsFree t.opening t.phases = subst (λ (x : TraceRead). IsFree x.opening x.phases) c.trace.view_is c.trace.invariant.0 in
    inl (inl (rw (c.pieces.ensures ∙ prints_plain t c.in-Ok.text free one c.in-Ok.ensures) at c.say_each.ensures.said))

pub returns-in-Err-NoMemory-clause-said : goal.returns-in-Err-NoMemory-clause-said
unfolding memory_fault_text
returns-in-Err-NoMemory-clause-said g c = inr (inl c.say.ensures.said)

pub returns-in-Err-NoMemory-clause-alone : goal.returns-in-Err-NoMemory-clause-alone
unfolding memory_fault_text
returns-in-Err-NoMemory-clause-alone g c = λ one. inl (inr c.say.ensures.said)

pub returns-in-Err-Closed-clause-said : goal.returns-in-Err-Closed-clause-said
unfolding thread_fault_text
returns-in-Err-Closed-clause-said g c = inr (inr c.say-in-Err-Closed.ensures.said)

pub returns-in-Err-Closed-clause-alone : goal.returns-in-Err-Closed-clause-alone
unfolding thread_fault_text
returns-in-Err-Closed-clause-alone g c = λ one. inr c.say-in-Err-Closed.ensures.said
