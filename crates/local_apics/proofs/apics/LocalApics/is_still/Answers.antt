use Rattle.std.proofs.Common.{ℕ, ◌-◌, ◌<◌, get_or, w64, sym, ap, subst, ◌∙◌, inl, inr, arith}
use Rattle.std.proofs.lemmas.Bool.{cases_eq}
use Rattle.std.proofs.lemmas.Nat.Bits.{bit_at-zero}
use Rattle.std.specs.Int.{bit_at, trailing_zeros}
use Rattle.tsc_scale.specs.declared.Tsc.{Tsc}
use Rattle.lapic_timer.specs.declared.parts.ApicParts.{ApicParts}
use Rattle.local_apics.specs.declared.parts.ApicsParts.{ApicsParts}
use Rattle.local_apics.specs.declared.span.TscClock.{TscClock}
use Rattle.local_apics.specs.Parts.{is_idle}
use Rattle.local_apics.specs.Places.{no_tsc, timer_at}
use Rattle.local_apics.specs.Nanosecond.{tscs_of, tsc_in}
use Rattle.local_apics.specs.private.Span.{length_of}
use Rattle.local_apics.specs.private.Stretch.{IsStill}
use Rattle.local_apics.proofs.Unchanged.{IsStill-idle, bit-unset, idle-unset, without_lowest-less, without_lowest-bit}
use Rattle.local_apics.proofs.apics.LocalApics.is_still.Goals as goal

pub loop-rest-init : goal.loop-rest-init
loop-rest-init c = λ k less clear armed.
    absurd (armed (ap (λ (a : ApicsParts). (timer_at k a).deadline) (sym c.self.view_is)
    ∙ bit-unset k c.self.inside.waiting c.self.inside.timers less (sym c.self.invariant.waiting) clear))

pub loop-rest-smaller : goal.loop-rest-smaller
loop-rest-smaller c = without_lowest-less c.loop-rest.rest (omega (arith, c.loop-rest-test.true)) (omega (arith, c.loop-rest.auto.rest-fits))

pub loop-rest-preserved : goal.loop-rest-preserved
loop-rest-preserved c = λ k less clear armed. elim (cases_eq k (trailing_zeros w64 c.loop-rest.rest)) [
  | inl here ↦
      subst (λ (p : ApicParts). IsStill (tsc_in c.new-span.result.clock (get_or (tscs_of c.args.processors.now) k no_tsc)) c.new-span.result.from
      (length_of c.new-span.result) p) (c.timer.ensures.value ∙ ap (λ (j : ℕ). timer_at j c.args.self.now) (sym here))
      (subst (λ (t : Tsc). IsStill (tsc_in c.new-span.result.clock t) c.new-span.result.from (length_of c.new-span.result) c.timer.result)
      (c.tsc_of.ensures ∙ ap (λ (j : ℕ). get_or (tscs_of c.args.processors.now) j no_tsc) (sym here))
      (c.is_far_off.ensures c.if-not-is_far_off.false (λ none. armed
      (ap (λ (j : ℕ). (timer_at j c.args.self.now).deadline) here ∙ ap (λ (p : ApicParts). p.deadline) (sym c.timer.ensures.value) ∙ none))))
  | inr other ↦ c.loop-rest.invariant k less (sym
      (without_lowest-bit c.loop-rest.rest k (omega (arith, c.loop-rest-test.true)) (omega (arith, c.loop-rest.auto.rest-fits)) less other) ∙ clear) armed
]

-- each timer, in the nanoseconds of the span
still_in : (c : goal.After-loop-rest) → (k : ℕ) → k < 64
    → IsStill (tsc_in c.new-span.result.clock (get_or (tscs_of c.args.processors.now) k no_tsc)) c.new-span.result.from (length_of c.new-span.result)
    (timer_at k c.args.self.now)
still_in c k less = elim (cases_eq (timer_at k c.args.self.now).deadline 0) [
  | inl none ↦
      IsStill-idle _ _ _ (timer_at k c.args.self.now)
      (ap (λ (a : ApicsParts). is_idle (timer_at k a)) (sym c.self.view_is)
      ∙ idle-unset k c.self.inside.armed c.self.inside.timers less (sym c.self.invariant.armed) (c.if-self.false ∙ sym c.self.invariant.waiting)
      (ap (λ (a : ApicsParts). (timer_at k a).deadline) c.self.view_is ∙ none))
  | inr armed ↦ c.loop-rest.invariant k less (ap (λ (n : ℕ). bit_at n k) c.loop-rest-test.false ∙ bit_at-zero k) armed
]

pub returns : goal.returns
returns c = λ e k less.
    let tsc : Tsc = get_or (tscs_of c.args.processors.now) k no_tsc in
    let p : ApicParts = timer_at k c.args.self.now in
    subst (λ (clock : TscClock). IsStill (tsc_in clock tsc) c.args.from (c.args.to - c.args.from) p) c.new-span.ensures.clock
    (subst (λ (from : ℕ). IsStill (tsc_in c.new-span.result.clock tsc) from (c.args.to - from) p) c.new-span.ensures.from
    (subst (λ (to : ℕ). IsStill (tsc_in c.new-span.result.clock tsc) c.new-span.result.from (to - c.new-span.result.from) p) c.new-span.ensures.to
    (still_in c k less)))
