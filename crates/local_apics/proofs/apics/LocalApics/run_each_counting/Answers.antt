use Rattle.std.proofs.Common.{ap, ◌∙◌, arith}
use Rattle.tick_policy.specs.declared.parts.TickParts.{TickParts}
use Rattle.lapic_timer.specs.declared.parts.ApicParts.{ApicParts}
use Rattle.local_apics.proofs.Below.{run-start, run-more, run-end}
use Rattle.local_apics.proofs.apics.LocalApics.run_each_counting.Goals as goal

pub loop-cpu-init : goal.loop-cpu-init
loop-cpu-init c = λ tsc from.
    run-start c.first_armed-cpu.result tsc from c.args.n c.args.self.now c.first_armed-cpu.ensures.joined c.first_armed-cpu.ensures.idle

pub returns-then-is_idle_from : goal.returns-then-is_idle_from
returns-then-is_idle_from c = λ tsc from.
    run-end c.loop-cpu.cpu tsc from c.args.n c.args.self.now c.loop-cpu.self (c.loop-cpu.invariant tsc from) (c.is_idle_from.ensures c.if-is_idle_from.true)

-- the timers and lines to come are as they were
pub run_counting_at-requires-clause-none : goal.run_counting_at-requires-clause-none
run_counting_at-requires-clause-none c =
    ap (λ (p : ApicParts). p.deadline) ((c.loop-cpu.invariant (λ k t. 0) 0).other_timers c.loop-cpu.cpu (omega arith))
    ∙ c.requires.none c.loop-cpu.cpu (omega (arith, c.loop-cpu-test.true))

pub run_counting_at-requires-clause-room : goal.run_counting_at-requires-clause-room
run_counting_at-requires-clause-room c =
    let same = ap (λ (l : TickParts). l.counts.due) ((c.loop-cpu.invariant (λ k t. 0) 0).other_lines c.loop-cpu.cpu (omega arith)) in
    omega (arith, same, c.requires.room c.loop-cpu.cpu (omega (arith, c.loop-cpu-test.true)))

pub loop-cpu-preserved : goal.loop-cpu-preserved
loop-cpu-preserved c = λ tsc from.
    run-more c.loop-cpu.cpu tsc from c.args.n c.args.self.now c.loop-cpu.self c.run_counting_at.new.self (c.loop-cpu.invariant tsc from)
    (c.run_counting_at.ensures (tsc c.loop-cpu.cpu) from)

pub returns : goal.returns
returns c = λ tsc from.
    run-end c.loop-cpu.cpu tsc from c.args.n c.args.self.now c.loop-cpu.self (c.loop-cpu.invariant tsc from)
    (λ k after less. absurd (omega (arith, after, less, c.loop-cpu-test.false)))
