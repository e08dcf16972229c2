-- What each event and each stretch keeps: the conditions, the policy, and the number of due ticks but for the new ones.
use Rattle.std.proofs.Common.{◌≡◌, ℕ, zero, suc, ◌+◌, ◌%◌, Bool, true, false, ltb, eqb, Option, refl, ap, ◌∙◌}
use Rattle.std.proofs.Common.{arith}
use Rattle.std.proofs.lemmas.Bool.{lt-ltb}
use Rattle.tick_policy.specs.declared.parts.Policy.{Policy}
use Rattle.tick_policy.specs.declared.parts.Policy.TheVariants.{Discard, Delay, Slew}
use Rattle.tick_policy.specs.declared.parts.TickParts.{TickParts}
use Rattle.tick_policy.specs.Parts.{IsTickLine}
use Rattle.tick_policy.specs.Line.{line_at_power_on, ticked, acked}
use Rattle.tick_policy.specs.Stretch.{ticked_where, caught_up_where, line_after, is_caught, line_end}
use Rattle.tick_policy.proofs.Ticks.{policy-ticked_times, due_ticked_times}
use Rattle.tick_policy.proofs.Stretches.{line_after-zero, line_after-suc}

-- a line of its fields
abbrev line_of : Policy → Bool → ℕ → ℕ → ℕ → ℕ → TickParts
line_of policy up due rises queue lost = record { policy = policy; up = up; counts = record { due = due; rises = rises; queue = queue; lost = lost } }

-- power on
pub IsTickLine-line_at_power_on : (p : Policy) → IsTickLine (line_at_power_on p)
IsTickLine-line_at_power_on Discard = record { sum = refl; policy = refl }
IsTickLine-line_at_power_on Delay = record { sum = refl; policy = refl }
IsTickLine-line_at_power_on Slew = record { sum = refl; policy = refl }

-- a tick
pub IsTickLine-ticked : (l : TickParts) → IsTickLine l → IsTickLine (ticked l)
IsTickLine-ticked l is = keeps l.policy l.up l.counts.due l.counts.rises l.counts.queue l.counts.lost is
  where
    keeps : (p : Policy) (up : Bool) (d r q x : ℕ) → IsTickLine (line_of p up d r q x) → IsTickLine (ticked (line_of p up d r q x))
    keeps Discard true d r q x is = record { sum = omega (arith, is.sum); policy = is.policy }
    keeps Discard false d r q x is = record { sum = omega (arith, is.sum); policy = is.policy }
    keeps Delay true d r q x is = record { sum = omega (arith, is.sum); policy = is.policy }
    keeps Delay false d r q x is = record { sum = omega (arith, is.sum); policy = is.policy }
    keeps Slew true d r q x is = record { sum = omega (arith, is.sum); policy = is.policy }
    keeps Slew false d r q x is = record { sum = omega (arith, is.sum); policy = is.policy }

-- an acknowledgement
pub IsTickLine-acked : (l : TickParts) → IsTickLine l → IsTickLine (acked l)
IsTickLine-acked l is = keeps l.policy l.up l.counts.due l.counts.rises l.counts.queue l.counts.lost is
  where
    keeps : (p : Policy) (up : Bool) (d r q x : ℕ) → IsTickLine (line_of p up d r q x) → IsTickLine (acked (line_of p up d r q x))
    keeps Discard up d r q x is = record { sum = is.sum; policy = is.policy }
    keeps Slew up d r q x is = record { sum = is.sum; policy = is.policy }
    keeps Delay false d r q x is = record { sum = is.sum; policy = is.policy }
    keeps Delay true d r zero x is = record { sum = is.sum; policy = is.policy }
    keeps Delay true d r (suc q) x is = rw (lt-ltb 0 (suc q) (omega arith)) (record { sum = omega (arith, is.sum); policy = is.policy })

-- either, where a test holds
pub IsTickLine-ticked_where : (b : Bool) (l : TickParts) → IsTickLine l → IsTickLine (ticked_where b l)
IsTickLine-ticked_where true l is = IsTickLine-ticked l is
IsTickLine-ticked_where false l is = is

-- a catch-up point makes no tick due and keeps the policy
pub due-caught_up_where : (b : Bool) (l : TickParts) → (caught_up_where b l).counts.due ≡ l.counts.due
due-caught_up_where true l = refl
due-caught_up_where false l = refl

pub policy-caught_up_where : (b : Bool) (l : TickParts) → (caught_up_where b l).policy ≡ l.policy
policy-caught_up_where true l = refl
policy-caught_up_where false l = refl

pub policy-ticked_where : (b : Bool) (l : TickParts) → (ticked_where b l).policy ≡ l.policy
policy-ticked_where true l = refl
policy-ticked_where false l = refl

-- over a stretch the due ticks grow by its ticks
pub due-line_end : (point to : ℕ) (first : Option ℕ) (ticks : ℕ) (l : TickParts) → (line_end point to first ticks l).counts.due ≡ l.counts.due + ticks
due-line_end point to first ticks l =
    due_ticked_times ticks (caught_up_where (is_caught point to first) l) ∙ ap (λ (d : ℕ). d + ticks) (due-caught_up_where (is_caught point to first) l)

-- .. and the policy stays
pub policy-line_end : (point to : ℕ) (first : Option ℕ) (ticks : ℕ) (l : TickParts) → (line_end point to first ticks l).policy ≡ l.policy
policy-line_end point to first ticks l =
    policy-ticked_times ticks (caught_up_where (is_caught point to first) l) ∙ policy-caught_up_where (is_caught point to first) l

pub policy-line_after : (ticks : ℕ → ℕ) (slew t n : ℕ) (l : TickParts) → (line_after ticks slew t n l).policy ≡ l.policy
policy-line_after ticks slew t zero l = ap (λ (k : TickParts). k.policy) (line_after-zero ticks slew t l)
policy-line_after ticks slew t (suc n) l =
    ap (λ (k : TickParts). k.policy) (line_after-suc ticks slew t n l)
    ∙ policy-caught_up_where (eqb ((t + n + 1) % slew) 0) (ticked_where (ltb (ticks n) (ticks (suc n))) (line_after ticks slew t n l))
    ∙ policy-ticked_where (ltb (ticks n) (ticks (suc n))) (line_after ticks slew t n l)
    ∙ policy-line_after ticks slew t n l
