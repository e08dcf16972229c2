use Rattle.std.proofs.Common.{ℕ, ◌+◌, get_or, subst, ◌∙◌, arith}
use Rattle.tsc_scale.specs.declared.Tsc.{Tsc}
use Rattle.local_apics.specs.Places.{no_tsc}
use Rattle.local_apics.specs.Nanosecond.{tscs_of, tsc_in}
use Rattle.local_apics.specs.private.Span.{length_of}
use Rattle.local_apics.specs.private.Stretch.{IsRunAt, IsRunBelow}
use Rattle.local_apics.proofs.Below.{run-start, run-more, run-end, span-run}
use Rattle.local_apics.proofs.apics.LocalApics.run_each.Goals as goal

pub loop-cpu-init : goal.loop-cpu-init
loop-cpu-init c =
    let tsc : ℕ → ℕ → ℕ = λ k. tsc_in c.new-span.result.clock (get_or (tscs_of c.args.processors.now) k no_tsc) in
    let start : IsRunBelow c.first_armed-cpu.result tsc c.new-span.result.from (length_of c.new-span.result) c.args.self.now c.args.self.now =
    run-start c.first_armed-cpu.result tsc c.new-span.result.from (length_of c.new-span.result) c.args.self.now c.first_armed-cpu.ensures.joined
    c.first_armed-cpu.ensures.idle in
    start

pub returns-then-is_idle_from : goal.returns-then-is_idle_from
returns-then-is_idle_from c =
    run-end c.loop-cpu.cpu (λ k. tsc_in c.new-span.result.clock (get_or (tscs_of c.args.processors.now) k no_tsc)) c.new-span.result.from
    (length_of c.new-span.result) c.args.self.now c.loop-cpu.self c.loop-cpu.invariant (c.is_idle_from.ensures c.if-is_idle_from.true)
    ∙ span-run c.new-span.result c.args.clock.now (tscs_of c.args.processors.now) c.args.from c.args.to c.args.self.now
    c.new-span.ensures.clock c.new-span.ensures.from c.new-span.ensures.to

pub loop-cpu-preserved : goal.loop-cpu-preserved
loop-cpu-preserved c =
    let tsc : ℕ → ℕ → ℕ = λ k. tsc_in c.new-span.result.clock (get_or (tscs_of c.args.processors.now) k no_tsc) in
    let more : IsRunBelow (c.loop-cpu.cpu + 1) tsc c.new-span.result.from (length_of c.new-span.result) c.args.self.now c.run_at.new.self =
    run-more c.loop-cpu.cpu tsc c.new-span.result.from (length_of c.new-span.result) c.args.self.now c.loop-cpu.self c.run_at.new.self
    c.loop-cpu.invariant
    (subst (λ (t : Tsc). IsRunAt c.loop-cpu.cpu (tsc_in c.new-span.result.clock t) c.new-span.result.from (length_of c.new-span.result)
    c.loop-cpu.self c.run_at.new.self) c.tsc_of-tsc.ensures c.run_at.ensures) in
    more

pub returns : goal.returns
returns c =
    run-end c.loop-cpu.cpu (λ k. tsc_in c.new-span.result.clock (get_or (tscs_of c.args.processors.now) k no_tsc)) c.new-span.result.from
    (length_of c.new-span.result) c.args.self.now c.loop-cpu.self c.loop-cpu.invariant
    (λ k after less. absurd (omega (arith, after, less, c.loop-cpu-test.false)))
    ∙ span-run c.new-span.result c.args.clock.now (tscs_of c.args.processors.now) c.args.from c.args.to c.args.self.now
    c.new-span.ensures.clock c.new-span.ensures.from c.new-span.ensures.to
