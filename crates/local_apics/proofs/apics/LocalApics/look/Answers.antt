use Rattle.std.proofs.Common.{◌≡◌, ℕ, ◌+◌, ◌%◌, ◌^◌, ap, subst, ◌∙◌, arith}
use Rattle.tsc_scale.specs.declared.Tsc.{Tsc}
use Rattle.tsc_scale.specs.Ratio.{ratio_of}
use Rattle.tsc_scale.specs.Tsc.{tsc_at}
use Rattle.lapic_timer.specs.Deadline.{count_at}
use Rattle.lapic_timer.proofs.Waits.{tsc_at-offset}
use Rattle.local_apics.specs.Nanosecond.{tscs_of, tsc_by_time}
use Rattle.local_apics.specs.private.Stretch.{IsLookedAt, IsLookedBelow}
use Rattle.local_apics.proofs.Below.{looked-start, looked-more, looked-end, looked-none}
use Rattle.local_apics.proofs.apics.LocalApics.look.Goals as goal

pub returns-then-not-has_deadlines : goal.returns-then-not-has_deadlines
returns-then-not-has_deadlines c =
    looked-none (λ k. tsc_by_time c.args.clock.now (tscs_of c.args.processors.now) k c.args.at) c.args.self.now c.has_deadlines.ensures.joined
    (c.has_deadlines.ensures.none c.if-not-has_deadlines.true)

pub loop-cpu-init : goal.loop-cpu-init
loop-cpu-init c =
    let tsc : ℕ → ℕ = λ k. tsc_by_time c.args.clock.now (tscs_of c.args.processors.now) k c.args.at in
    let start : IsLookedBelow c.first_armed-cpu.result tsc c.args.self.now c.args.self.now =
    looked-start c.first_armed-cpu.result tsc c.args.self.now c.has_deadlines.ensures.joined c.first_armed-cpu.ensures.idle in
    start

pub returns-then-is_idle_from : goal.returns-then-is_idle_from
returns-then-is_idle_from c =
    let tsc : ℕ → ℕ = λ k. tsc_by_time c.args.clock.now (tscs_of c.args.processors.now) k c.args.at in
    looked-end c.loop-cpu.cpu tsc c.args.self.now c.loop-cpu.self c.loop-cpu.invariant (c.is_idle_from.ensures c.if-is_idle_from.true)

-- the TSC at the look
tsc_is : (c : goal.After-look_at) → c.tsc_by-tsc.result ≡ tsc_by_time c.args.clock.now (tscs_of c.args.processors.now) c.loop-cpu.cpu c.args.at
tsc_is c =
    c.tsc_by-tsc.ensures
    ∙ ap (λ (x : ℕ). (x + c.tsc_of.result.offset) % 2 ^ 64) c.guest_count_at-count.ensures
    ∙ tsc_at-offset c.tsc_of.result (count_at c.args.clock.now.anchor c.args.at) (ratio_of c.args.clock.now.guest_khz c.args.clock.now.anchor.khz)
    ∙ ap (λ (tsc : Tsc). tsc_at tsc (count_at c.args.clock.now.anchor c.args.at) (ratio_of c.args.clock.now.guest_khz c.args.clock.now.anchor.khz))
    c.tsc_of.ensures

pub loop-cpu-preserved : goal.loop-cpu-preserved
loop-cpu-preserved c =
    let tsc : ℕ → ℕ = λ k. tsc_by_time c.args.clock.now (tscs_of c.args.processors.now) k c.args.at in
    let more : IsLookedBelow (c.loop-cpu.cpu + 1) tsc c.args.self.now c.look_at.new.self =
    looked-more c.loop-cpu.cpu tsc c.args.self.now c.loop-cpu.self c.look_at.new.self c.loop-cpu.invariant
    (subst (λ (x : ℕ). IsLookedAt c.loop-cpu.cpu x c.loop-cpu.self c.look_at.new.self) (tsc_is c) c.look_at.ensures) in
    more

pub returns : goal.returns
returns c =
    let tsc : ℕ → ℕ = λ k. tsc_by_time c.args.clock.now (tscs_of c.args.processors.now) k c.args.at in
    looked-end c.loop-cpu.cpu tsc c.args.self.now c.loop-cpu.self c.loop-cpu.invariant
    (λ k after less. absurd (omega (arith, after, less, c.loop-cpu-test.false)))
