-- A tick and a catch-up point of one nanosecond, in either order: a stretch ends the same.
use Rattle.std.proofs.Common.{◌≡◌, ℕ, zero, suc, ◌+◌, ◌%◌, Bool, true, false, ltb, eqb, refl, sym, ap, ◌∙◌}
use Rattle.tick_policy.specs.declared.parts.TickParts.{TickParts}
use Rattle.tick_policy.specs.Stretch.{ticked_where, caught_up_where, line_after, line_after_points}
use Rattle.tick_policy.proofs.Ticks.{caught_up-ticked}
use Rattle.tick_policy.proofs.Stretches.{line_after-zero, line_after-suc}

-- no nanoseconds
pub line_after_points-zero : (ticks : ℕ → ℕ) (slew t : ℕ) (l : TickParts) → line_after_points ticks slew t 0 l ≡ l
unfolding line_after_points
line_after_points-zero ticks slew t l = refl

-- one nanosecond more
pub line_after_points-suc : (ticks : ℕ → ℕ) (slew t n : ℕ) (l : TickParts)
    → line_after_points ticks slew t (suc n) l
    ≡ ticked_where (ltb (ticks n) (ticks (suc n))) (caught_up_where (eqb ((t + n + 1) % slew) 0) (line_after_points ticks slew t n l))
unfolding line_after_points
line_after_points-suc ticks slew t n l = refl

-- one nanosecond
either_order : (point tick : Bool) (l : TickParts) → ticked_where tick (caught_up_where point l) ≡ caught_up_where point (ticked_where tick l)
either_order true true l = sym (caught_up-ticked l)
either_order true false l = refl
either_order false tick l = refl

-- a stretch
pub line_after_points-is : (ticks : ℕ → ℕ) (slew t n : ℕ) (l : TickParts) → line_after_points ticks slew t n l ≡ line_after ticks slew t n l
line_after_points-is ticks slew t zero l = line_after_points-zero ticks slew t l ∙ sym (line_after-zero ticks slew t l)
line_after_points-is ticks slew t (suc n) l =
    line_after_points-suc ticks slew t n l
    ∙ ap (λ (k : TickParts). ticked_where (ltb (ticks n) (ticks (suc n))) (caught_up_where (eqb ((t + n + 1) % slew) 0) k))
    (line_after_points-is ticks slew t n l)
    ∙ either_order (eqb ((t + n + 1) % slew) 0) (ltb (ticks n) (ticks (suc n))) (line_after ticks slew t n l)
    ∙ sym (line_after-suc ticks slew t n l)
