use Rattle.std.proofs.Common.{◌≡◌, ℕ, ◌-◌, Bool, true, false, Option, Some, None, sym, ap, subst, ◌∙◌, arith}
use Rattle.std.proofs.lemmas.Bool.{eqb-true, false≢true, eq-eqb}
use Rattle.clk_units.specs.Events.{IsFirst}
use Rattle.lapic_timer.specs.declared.parts.ApicParts.{ApicParts}
use Rattle.lapic_timer.specs.Parts.{mode_of, is_masked, is_deadline}
use Rattle.lapic_timer.specs.Stretch.{fires_in}
use Rattle.lapic_timer.specs.Deadline.{IsFirstAt, is_reached_at}
use Rattle.local_apics.specs.Nanosecond.{tsc_in}
use Rattle.local_apics.specs.private.Span.{ratio_in}
use Rattle.local_apics.proofs.Ticks.{first-is, ticks_at-masked, next-deadline, none-fires, fires-there}
use Rattle.local_apics.proofs.span.next_tick.Goals as goal

pub returns-then-is_masked : goal.returns-then-is_masked
returns-then-is_masked c = λ t after within.
    ticks_at-masked (tsc_in c.args.clock.now c.args.tsc) c.args.from t c.args.timer.now (sym c.is_masked.ensures ∙ c.if-is_masked.true)

pub returns-then-is_deadline : goal.returns-then-is_deadline
returns-then-is_deadline c =
    let deadline : is_deadline c.args.timer.now ≡ true = ap is_deadline (sym c.parts.ensures.value) ∙ sym c.is_deadline.ensures ∙ c.if-is_deadline.true in
    next-deadline (tsc_in c.args.clock.now c.args.tsc) c.args.from c.args.to c.args.timer.now (eqb-true (mode_of c.args.timer.now.lvt) 2 deadline)
    (sym c.is_masked.ensures ∙ c.if-is_masked.false) c.first_reach.result
    (first-is c.args.clock.now.anchor (ratio_in c.args.clock.now) c.args.tsc c.args.timer.now.deadline c.args.from c.args.to c.first_reach.result
    (subst (λ (d : ℕ). IsFirstAt (is_reached_at c.args.clock.now.anchor (ratio_in c.args.clock.now) c.args.tsc d) c.args.from c.args.to c.first_reach.result)
    c.deadline-deadline.ensures.value c.first_reach.ensures))

-- a timer that isn't in deadline mode
counts : (p q : ApicParts) (b : Bool) → q ≡ p → b ≡ is_deadline q → b ≡ false → mode_of p.lvt ≡ 2 → ⊥
counts p q b same e low deadline = false≢true (sym low ∙ e ∙ ap is_deadline same ∙ eq-eqb (mode_of p.lvt) 2 deadline)

pub returns-in-Some : goal.returns-in-Some
returns-in-Some c =
    let p : ApicParts = c.args.timer.now in
    let other = counts p c.parts.result c.is_deadline.result c.parts.ensures.value c.is_deadline.ensures c.if-is_deadline.false in
    let open_ : is_masked p ≡ false = sym c.is_masked.ensures ∙ c.if-is_masked.false in
    let is : IsFirst (fires_in p) (c.args.to - c.args.from) (Some c.in-Some.n) =
    subst (λ (first : Option ℕ). IsFirst (fires_in p) (c.args.to - c.args.from) first) c.in-Some.is c.run-fires.ensures.first in (
      omega (arith, is.0),
      omega (arith, is.1, c.requires.ranges.order),
      fires-there (tsc_in c.args.clock.now c.args.tsc) c.args.from p other open_ c.in-Some.n is.0 is.2 is.3,
      λ t after before. none-fires (tsc_in c.args.clock.now c.args.tsc) c.args.from p other open_ (c.in-Some.n - 1) t is.2 after (omega (arith, before, is.0)),
    )

pub returns-in-None : goal.returns-in-None
returns-in-None c =
    let p : ApicParts = c.args.timer.now in
    let other = counts p c.parts.result c.is_deadline.result c.parts.ensures.value c.is_deadline.ensures c.if-is_deadline.false in
    let open_ : is_masked p ≡ false = sym c.is_masked.ensures ∙ c.if-is_masked.false in
    let is : IsFirst (fires_in p) (c.args.to - c.args.from) None =
    subst (λ (first : Option ℕ). IsFirst (fires_in p) (c.args.to - c.args.from) first) c.in-None.is c.run-fires.ensures.first in
    λ t after within.
    none-fires (tsc_in c.args.clock.now c.args.tsc) c.args.from p other open_ (c.args.to - c.args.from) t is after
    (omega (arith, within, c.requires.ranges.order))
