use Rattle.std.proofs.Common.{◌≡◌, ◌<◌, Bool, true, false, sym, ap, subst, refl, ◌∙◌, arith}
use Rattle.lapic_timer.specs.declared.parts.ApicParts.{ApicParts}
use Rattle.lapic_timer.specs.Parts.{IsApicTimer}
use Rattle.lapic_timer.specs.Stretch.{passed_times, fires_in}
use Rattle.lapic_timer.proofs.Keeps.{IsApicTimer-passed_times}
use Rattle.lapic_timer.proofs.Laws.{counting-mode, stretch-ahead, fires_in-after}
use Rattle.lapic_timer.proofs.Nanoseconds.{nanoseconds-passed_times}
use Rattle.lapic_timer.proofs.timer.ApicTimer.glide.Goals as goal

-- so many nanoseconds before the fire
glides : (c : goal.After-glide) → c.glide.result ≡ true
    → (c.glide.new.parts ≡ passed_times c.args.n c.self.inside.parts) × (fires_in c.self.inside.parts c.args.n ≡ 0)
glides c e =
    let is = stretch-ahead c.args.n c.self.inside.parts c.self.invariant (c.glide.ensures.counts e) (c.glide.ensures.quiet e) in
    (c.glide.ensures.state e ∙ sym is.0, is.1)

pub invariant_of-self : goal.invariant_of-self
invariant_of-self c = by c.glide.result refl
  where
    by : (b : Bool) → c.glide.result ≡ b → IsApicTimer c.glide.new.parts
    by true e =
        let is = stretch-ahead c.args.n c.self.inside.parts c.self.invariant (c.glide.ensures.counts e) (c.glide.ensures.quiet e) in
        subst IsApicTimer (sym (c.glide.ensures.state e ∙ sym is.0)) (IsApicTimer-passed_times c.args.n c.self.inside.parts c.self.invariant)
    by false e = subst IsApicTimer (sym (c.glide.ensures.unchanged e)) c.self.invariant

pub returns-clause-quiet : goal.returns-clause-quiet
returns-clause-quiet c = λ e. (
  omega (arith, c.glide.ensures.counts e, ap (λ (p : ApicParts). p.current) c.self.view_is),
  ap (λ (p : ApicParts). fires_in p c.args.n) (sym c.self.view_is) ∙ (glides c e).1,
)

pub returns-clause-fires : goal.returns-clause-fires
returns-clause-fires c = λ e some.
    let counts : 0 < c.self.inside.parts.current = omega (arith, some, ap (λ (p : ApicParts). p.current) c.self.view_is) in
    let fired : 0 < fires_in c.self.inside.parts c.args.n = fires_in-after c.args.n c.self.inside.parts c.self.invariant counts (c.glide.ensures.fires e counts) in
    omega (arith, fired, ap (λ (p : ApicParts). fires_in p c.args.n) c.self.view_is)

pub returns-clause-state : goal.returns-clause-state
returns-clause-state c = λ e. (glides c e).0 ∙ ap (passed_times c.args.n) c.self.view_is

pub returns-clause-nanoseconds : goal.returns-clause-nanoseconds
returns-clause-nanoseconds c = λ e tsc from.
    let valid : IsApicTimer c.args.self.now = subst IsApicTimer c.self.view_is c.self.invariant in
    let counts : 0 < c.args.self.now.current = omega (arith, c.glide.ensures.counts e, ap (λ (p : ApicParts). p.current) c.self.view_is) in
    (glides c e).0 ∙ ap (passed_times c.args.n) c.self.view_is
    ∙ sym (nanoseconds-passed_times tsc from c.args.n c.args.self.now (counting-mode c.args.self.now valid counts))
