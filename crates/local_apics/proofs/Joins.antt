-- Runs one after the other, and a look after a run.
use Rattle.std.proofs.Common.{◌≡◌, ℕ, zero, suc, ◌+◌, Bool, true, false, cond, not, ◌&&◌, ◌||◌, eqb, ◌<◌, ◌≤◌}
use Rattle.std.proofs.Common.{List, [], ◌∷◌, length, get_or, refl, ap, ◌∙◌, arith, inl, inr}
use Rattle.std.proofs.lemmas.Bool.{cases_eq, cases_lt, eq-eqb, ne_eqb}
use Rattle.local_apics.proofs.Places.{each-in, each-still, each-none, length-each}
use Rattle.local_apics.proofs.Product.{both, same_parts}
use Rattle.tick_policy.specs.declared.parts.TickParts.{TickParts}
use Rattle.tick_policy.specs.Stretch.{ticked_where}
use Rattle.lapic_timer.specs.declared.parts.ApicParts.{ApicParts}
use Rattle.lapic_timer.specs.Parts.{IsApicTimer, is_masked, is_deadline, mode_of, divisor}
use Rattle.lapic_timer.specs.Stretch.{counted, passed, nanosecond}
use Rattle.lapic_timer.specs.Deadline.{is_reached, looked}
use Rattle.local_apics.specs.declared.parts.ApicsParts.{ApicsParts}
use Rattle.local_apics.specs.Places.{each, no_timer, timer_at}
use Rattle.local_apics.specs.Nanosecond.{at_nanosecond, looked_all, looks_due}
use Rattle.local_apics.proofs.Ticks.{looked-quiet}

get_or-after : {X : Type 0} (xs : List X) (i : ℕ) (d : X) → length xs ≤ i → get_or xs i d ≡ d
get_or-after [] i d h = refl
get_or-after (x ∷ xs) zero d h = absurd (omega arith)
get_or-after (x ∷ xs) (suc i) d h = get_or-after xs i d (omega arith)

-- a deadline that was looked at isn't reached
unreached : (t : ℕ) (p : ApicParts) → is_reached (looked t p).deadline t ≡ false
unreached t p = by (is_reached p.deadline t) refl
  where
    by : (b : Bool) → is_reached p.deadline t ≡ b → is_reached (cond b (record p { deadline = 0 }) p).deadline t ≡ false
    by true e = refl
    by false e = e

deadline-passed : (p : ApicParts) → (passed p).deadline ≡ p.deadline
unfolding passed
deadline-passed p = by (is_deadline p || eqb p.current 0) (eqb (p.phase + 1) (divisor p.divide))
  where
    by : (a b : Bool) → (cond a p (cond b (counted p) (record p { phase = p.phase + 1 }))).deadline ≡ p.deadline
    by true b = refl
    by false true = refl
    by false false = refl

-- after a nanosecond no deadline is reached at its end
pub quiet : (t : ℕ) (p : ApicParts) → IsApicTimer p → is_reached (nanosecond t p).deadline t ≡ false
quiet t p valid = elim (cases_eq (mode_of p.lvt) 2) [
  | inl deadline ↦ ap (λ (b : Bool). is_reached (cond b (looked t p) (passed p)).deadline t) (eq-eqb (mode_of p.lvt) 2 deadline) ∙ unreached t p
  | inr other ↦ ap (λ (b : Bool). is_reached (cond b (looked t p) (passed p)).deadline t) (ne_eqb (mode_of p.lvt) 2 other)
      ∙ ap (λ (d : ℕ). is_reached d t) (deadline-passed p ∙ valid.deadline other)
]

never : (m b : Bool) → b ≡ false → (m && b) ≡ false
never true b low = low
never false b low = refl

-- .. so a look at the same TSCs after a nanosecond leaves all as it is
module _ (tsc : ℕ → ℕ) (a : ApicsParts) (valid : (k : ℕ) → k < length a.timers → IsApicTimer (timer_at k a)) where
  none : (i : ℕ) → is_reached (get_or (each (λ k p. nanosecond (tsc k) p) 0 a.timers) i no_timer).deadline (tsc i) ≡ false
  none i = elim (cases_lt i (length a.timers)) [
    | inl less ↦
        ap (λ (p : ApicParts). is_reached p.deadline (tsc i)) (each-in (λ k p. nanosecond (tsc k) p) no_timer 0 i a.timers less
        ∙ ap (λ (j : ℕ). nanosecond (tsc j) (timer_at i a)) (omega arith))
        ∙ quiet (tsc i) (timer_at i a) (valid i less)
    | inr past ↦ ap (λ (p : ApicParts). is_reached p.deadline (tsc i)) (get_or-after (each (λ k p. nanosecond (tsc k) p) 0 a.timers) i no_timer
        (omega (arith, past, length-each (λ k p. nanosecond (tsc k) p) 0 a.timers)))
  ]

  pub look-again : looked_all tsc (at_nanosecond tsc a) ≡ at_nanosecond tsc a
  unfolding looked_all at_nanosecond
  look-again =
      same_parts _ _ _ _
      (each-still (λ k p. looked (tsc k) p) no_timer (each (λ k p. nanosecond (tsc k) p) 0 a.timers)
      (λ i less. looked-quiet (tsc i) (get_or (each (λ k p. nanosecond (tsc k) p) 0 a.timers) i no_timer) (none i)))
      (each-none (λ k l. ticked_where (not (is_masked (get_or (each (λ k p. nanosecond (tsc k) p) 0 a.timers) k no_timer))
      && is_reached (get_or (each (λ k p. nanosecond (tsc k) p) 0 a.timers) k no_timer).deadline (tsc k)) l)
      (λ i l. ap (λ (b : Bool). ticked_where b l) (never (not (is_masked (get_or (each (λ k p. nanosecond (tsc k) p) 0 a.timers) i no_timer)))
      (is_reached (get_or (each (λ k p. nanosecond (tsc k) p) 0 a.timers) i no_timer).deadline (tsc i)) (none i))) 0 _)

-- lists that are those after a look
pub looks-parts : (tsc : ℕ → ℕ) (a : ApicsParts) → both (each (λ k p. looked (tsc k) p) 0 a.timers)
    (each (λ k l. ticked_where (looks_due (tsc k) (timer_at k a)) l) 0 a.lines) ≡ looked_all tsc a
unfolding looked_all
looks-parts tsc a = refl

pub due-where : (b : Bool) (l : TickParts) → (ticked_where b l).counts.due ≤ l.counts.due + 1
due-where true l = omega arith
due-where false l = omega arith
