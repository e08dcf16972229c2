-- An access publishes one thing at most, and a page that is there.
use Rattle.std.proofs.Common.{◌≡◌, ℕ, ◌<◌, ◌≤◌, Bool, true, false, cond, Option, Some, None, IfSome, IsTrue, refl, sym, subst, ◌∙◌, inl, inr, eqb, arith}
use Rattle.std.proofs.lemmas.Bool.{cases_lt, le-ltb, false≢true, eqb-true}
use Rattle.board_types.specs.Legal.{is_legal}
use Rattle.board_types.specs.declared.access.Access.{Access}
use Rattle.board_types.specs.declared.access.Access.TheVariants.{MsrWrite, Refresh}
use Rattle.board_types.specs.declared.access.TheConstants.{MSR_KVM_WALL_CLOCK, MSR_HV_REFERENCE_TSC}
use Rattle.board_meters.specs.Published.{page_of_msr, published_by, publishes_wall, publishes_hv}

-- the page that a legal access publishes is one of the board's
pub legal-page : (cpus format cpu : ℕ) (a : Access) → cpu < cpus → IsTrue (is_legal cpus format a) → IfSome (published_by cpu a) (λ k. k < cpus)
legal-page cpus format cpu (Refresh page) inside legal = elim (cases_lt page cpus) [
  | inl less ↦ less
  | inr more ↦ absurd
      (false≢true (sym (le-ltb page cpus more) ∙ legal))
]
legal-page cpus format cpu (MsrWrite msr v) inside legal = by _
  where
    by : (b : Bool) → IfSome (cond b (Some cpu) None) (λ k. k < cpus)
    by true = inside
    by false = tt
legal-page cpus format cpu _ inside legal = tt

-- and has a place among those of 64 processors
pub page_place : (cpus format cpu : ℕ) (a : Access) → cpus ≤ 64 → cpu < cpus → IsTrue (is_legal cpus format a) → IfSome (published_by cpu a) (λ k. k < 64)
page_place cpus format cpu a most inside legal = by (published_by cpu a) (legal-page cpus format cpu a inside legal)
  where
    by : (o : Option ℕ) → IfSome o (λ k. k < cpus) → IfSome o (λ k. k < 64)
    by None l = tt
    by (Some k) l = omega arith

-- no access publishes two of them
pub page-or-wall : (cpu : ℕ) (a : Access) → publishes_wall a ≡ true → published_by cpu a ≡ None
page-or-wall cpu (MsrWrite msr v) is = subst (λ (m : ℕ). page_of_msr cpu m ≡ None) (sym (eqb-true msr MSR_KVM_WALL_CLOCK is)) refl
page-or-wall cpu (Refresh page) is = absurd (false≢true is)
page-or-wall cpu _ is = refl

pub hv-or-wall : (a : Access) → publishes_hv a ≡ true → publishes_wall a ≡ false
hv-or-wall (MsrWrite msr v) is = subst (λ (m : ℕ). (eqb m MSR_KVM_WALL_CLOCK) ≡ false) (sym (eqb-true msr MSR_HV_REFERENCE_TSC is)) refl
hv-or-wall _ is = refl

pub page-or-hv : (cpu : ℕ) (a : Access) → publishes_hv a ≡ true → published_by cpu a ≡ None
page-or-hv cpu (MsrWrite msr v) is = subst (λ (m : ℕ). page_of_msr cpu m ≡ None) (sym (eqb-true msr MSR_HV_REFERENCE_TSC is)) refl
page-or-hv cpu (Refresh page) is = absurd (false≢true is)
page-or-hv cpu _ is = refl

pub page-not_wall : (cpu k : ℕ) (a : Access) → published_by cpu a ≡ Some k → publishes_wall a ≡ false
page-not_wall cpu k a some = by (publishes_wall a) refl
  where
    by : (b : Bool) → publishes_wall a ≡ b → b ≡ false
    by true is = absurd (cc (sym some ∙ page-or-wall cpu a is))
    by false is = refl

pub page-not_hv : (cpu k : ℕ) (a : Access) → published_by cpu a ≡ Some k → publishes_hv a ≡ false
page-not_hv cpu k a some = by (publishes_hv a) refl
  where
    by : (b : Bool) → publishes_hv a ≡ b → b ≡ false
    by true is = absurd (cc (sym some ∙ page-or-hv cpu a is))
    by false is = refl
