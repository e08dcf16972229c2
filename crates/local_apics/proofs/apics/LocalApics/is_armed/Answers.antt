use Rattle.std.proofs.Common.{◌≡◌, false, not, eqb, sym, ap, subst, ◌∙◌, inl, inr}
use Rattle.std.proofs.lemmas.Bool.{cases_eq, eq-eqb, ne_eqb, false≢true}
use Rattle.local_apics.specs.Parts.{AreIdle, is_idle}
use Rattle.local_apics.proofs.Mask.{none-clear, bits_below-none}
use Rattle.local_apics.proofs.apics.LocalApics.is_armed.Goals as goal

pub returns-clause-idle : goal.returns-clause-idle
returns-clause-idle c = (
  λ low. subst AreIdle c.self.view_is (λ k less. none-clear is_idle k c.self.inside.armed c.self.inside.timers less (sym c.self.invariant.armed) (none low)),
  λ idle. ap not (eq-eqb c.self.inside.armed 0
      (sym c.self.invariant.armed ∙ bits_below-none is_idle 64 c.self.inside.timers (subst AreIdle (sym c.self.view_is) idle))),
)
  where
    none : not (eqb c.self.inside.armed 0) ≡ false → c.self.inside.armed ≡ 0
    none low = elim (cases_eq c.self.inside.armed 0) [
      | inl e ↦ e
      | inr some ↦ absurd (false≢true (sym low ∙ ap not (ne_eqb c.self.inside.armed 0 some)))
    ]
