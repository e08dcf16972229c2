use Rattle.std.proofs.Common.{◌≡◌, false, not, eqb, sym, ap, subst, ◌∙◌, inl, inr}
use Rattle.std.proofs.lemmas.Bool.{cases_eq, eqb-true, ne_eqb, false≢true}
use Rattle.local_apics.specs.declared.parts.ApicsParts.{ApicsParts}
use Rattle.local_apics.specs.Places.{timer_at}
use Rattle.local_apics.specs.private.Mask.{no_deadline}
use Rattle.local_apics.proofs.Mask.{none-clear}
use Rattle.local_apics.proofs.apics.LocalApics.has_deadlines.Goals as goal

pub returns-clause-none : goal.returns-clause-none
returns-clause-none c = λ low k less. subst (λ (a : ApicsParts). (timer_at k a).deadline ≡ 0) c.self.view_is
    (eqb-true _ 0 (none-clear no_deadline k c.self.inside.waiting c.self.inside.timers less (sym c.self.invariant.waiting) (none low)))
  where
    none : not (eqb c.self.inside.waiting 0) ≡ false → c.self.inside.waiting ≡ 0
    none low = elim (cases_eq c.self.inside.waiting 0) [
      | inl e ↦ e
      | inr some ↦ absurd (false≢true (sym low ∙ ap not (ne_eqb c.self.inside.waiting 0 some)))
    ]
