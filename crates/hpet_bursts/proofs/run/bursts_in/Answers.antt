-- The bursts so far are those of the timers so far.
use Rattle.std.proofs.Common.{◌≡◌, ℕ, ◌-◌, ◌≤◌, List, [], ◌∷◌, ◌++◌, length, Option, below_more, sym, ap, subst, ◌∙◌, arith}
use Rattle.irq_edges.specs.declared.bursts.Burst.{Burst}
use Rattle.hpet_bursts.specs.Messages.{message_times}
use Rattle.hpet_bursts.specs.Bursts.{IsBurst, burst_in, with_burst, bursts_below}
use Rattle.hpet_bursts.proofs.Runs.{bursts_below-zero, bursts_below-more, bursts_below-few, bursts_below-none}
use Rattle.hpet_bursts.proofs.run.bursts_in.Goals as goal
use Rattle.hpet_bursts.proofs.run.bursts_in.Goals.{in-Some, in_default}

pub loop-k-init : goal.loop-k-init
loop-k-init c = record {
  bursts = c.requires.fresh ∙ sym (bursts_below-zero c.args.from (c.args.to - c.args.from) c.args.h.now);
  each = λ j less. absurd (omega (arith, less));
}

pub push-requires : goal.push-requires
push-requires c =
    let few : length (bursts_below c.loop-k.k c.args.from (c.args.to - c.args.from) c.args.h.now) ≤ c.loop-k.k =
    bursts_below-few c.loop-k.k c.args.from (c.args.to - c.args.from) c.args.h.now in
    omega (arith, few, ap (λ (bs : List Burst). length bs) c.loop-k.invariant.bursts, c.loop-k-test.true)

joined : (c : goal.Joined-burst_of) → c.match-burst_of.bursts
    ≡ with_burst (bursts_below c.loop-k.k c.args.from (c.args.to - c.args.from) c.args.h.now)
    (burst_in c.loop-k.k c.args.from (c.args.to - c.args.from) c.args.h.now)
joined c =
    let before : List Burst = bursts_below c.loop-k.k c.args.from (c.args.to - c.args.from) c.args.h.now in
    elim c.match-burst_of.branch [
      | in-Some w ↦
          w.bursts-is ∙ w.push.ensures ∙ ap (λ (bs : List Burst). bs ++ w.in-Some.burst ∷ []) c.loop-k.invariant.bursts
          ∙ ap (with_burst before) (sym w.in-Some.is ∙ c.burst_of.ensures.value)
      | in_default w ↦ w.bursts-is ∙ c.loop-k.invariant.bursts ∙ ap (with_burst before) (sym w.in_default.is ∙ c.burst_of.ensures.value)
    ]

pub loop-k-preserved : goal.loop-k-preserved
loop-k-preserved c = record {
  bursts = joined c ∙ sym (bursts_below-more c.loop-k.k c.args.from (c.args.to - c.args.from) c.args.h.now);
  each = below_more
      (λ (j : ℕ). IsBurst j c.args.h.now (message_times j c.args.from (c.args.to - c.args.from) c.args.h.now)
      (burst_in j c.args.from (c.args.to - c.args.from) c.args.h.now))
      c.loop-k.k c.loop-k.invariant.each
      (subst (λ (b : Option Burst). IsBurst c.loop-k.k c.args.h.now (message_times c.loop-k.k c.args.from (c.args.to - c.args.from) c.args.h.now) b)
      c.burst_of.ensures.value c.burst_of.ensures.burst);
}

pub returns-clause-each : goal.returns-clause-each
returns-clause-each c = λ k less. c.loop-k.invariant.each k (omega arith)

pub returns-clause-none : goal.returns-clause-none
returns-clause-none c = λ silent.
    let all : c.loop-k.k ≡ 8 = omega arith in
    c.loop-k.invariant.bursts
    ∙ bursts_below-none c.loop-k.k c.args.from (c.args.to - c.args.from) c.args.h.now (λ j less. silent j (omega (arith, less, all)))
