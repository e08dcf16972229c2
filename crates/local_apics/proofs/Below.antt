-- Runs and looks, one processor after the other.
use Rattle.std.proofs.Common.{◌≡◌, ℕ, ◌+◌, ◌-◌, ◌<◌, ◌≤◌, Bool, true, false, not, ◌&&◌, List, get_or, refl, sym, ap, ◌∙◌, arith}
use Rattle.tsc_scale.specs.declared.Tsc.{Tsc}
use Rattle.tick_policy.specs.Line.{ticked_times}
use Rattle.tick_policy.specs.Stretch.{ticked_where}
use Rattle.tick_policy.proofs.Ticks.{ticked_times-zero}
use Rattle.lapic_timer.specs.declared.parts.ApicParts.{ApicParts}
use Rattle.lapic_timer.specs.Stretch.{nanoseconds}
use Rattle.lapic_timer.specs.Deadline.{is_reached, looked}
use Rattle.lapic_timer.specs.Parts.{is_masked}
use Rattle.local_apics.specs.declared.parts.ApicsParts.{ApicsParts}
use Rattle.local_apics.specs.declared.span.Span.{Span}
use Rattle.local_apics.specs.declared.span.TscClock.{TscClock}
use Rattle.local_apics.specs.Parts.{AreApicPlaces, is_idle}
use Rattle.local_apics.specs.Places.{timer_at, line_at, no_tsc}
use Rattle.local_apics.specs.Nanosecond.{run, looked_all, looks_due, tsc_by_time, tsc_in}
use Rattle.local_apics.specs.private.Span.{length_of}
use Rattle.local_apics.specs.private.Stretch.{IsRunAt, IsLookedAt, IsRunBelow, IsLookedBelow, ticks_in}
use Rattle.local_apics.proofs.Done.{done-none, done-more, done-all}
use Rattle.local_apics.proofs.Product.{runs}
use Rattle.local_apics.proofs.Joins.{looks-parts}
use Rattle.local_apics.proofs.Ticks.{idle_parts, nanoseconds-idle, ticks_in-idle, looked-quiet}

-- idle timers stay in a run, and so do their lines
timer-idle : (tsc : ℕ → ℕ → ℕ) (from n j : ℕ) (a : ApicsParts) → is_idle (timer_at j a) ≡ true → nanoseconds (tsc j) from n (timer_at j a) ≡ timer_at j a
timer-idle tsc from n j a idle =
    nanoseconds-idle (tsc j) from n (timer_at j a) (idle_parts (timer_at j a) idle).0 (idle_parts (timer_at j a) idle).1

line-idle : (tsc : ℕ → ℕ → ℕ) (from n j : ℕ) (a : ApicsParts) → is_idle (timer_at j a) ≡ true
    → ticked_times (ticks_in (tsc j) from (timer_at j a) n) (line_at j a) ≡ line_at j a
line-idle tsc from n j a idle =
    ap (λ (m : ℕ). ticked_times m (line_at j a))
    (ticks_in-idle (tsc j) from n (timer_at j a) (idle_parts (timer_at j a) idle).0 (idle_parts (timer_at j a) idle).1)
    ∙ ticked_times-zero (line_at j a)

-- a run begins with the first timer that isn't idle
pub run-start : (k : ℕ) (tsc : ℕ → ℕ → ℕ) (from n : ℕ) (a : ApicsParts) → AreApicPlaces a
    → ((j : ℕ) → j < k → is_idle (timer_at j a) ≡ true) → IsRunBelow k tsc from n a a
run-start k tsc from n a are idle =
    done-none k _ _ a are (λ j less. timer-idle tsc from n j a (idle j less)) (λ j less. line-idle tsc from n j a (idle j less))

pub run-more : (k : ℕ) (tsc : ℕ → ℕ → ℕ) (from n : ℕ) (a b c : ApicsParts) → IsRunBelow k tsc from n a b → IsRunAt k (tsc k) from n b c
    → IsRunBelow (k + 1) tsc from n a c
run-more k tsc from n a b c done more =
    let same : timer_at k b ≡ timer_at k a = done.other_timers k (omega arith) in
    done-more k _ _ a b c done more.joined
    (more.timer ∙ ap (nanoseconds (tsc k) from n) same)
    (more.line ∙ ap (λ (p : ApicParts). ticked_times (ticks_in (tsc k) from p n) (line_at k b)) same
    ∙ ap (ticked_times (ticks_in (tsc k) from (timer_at k a) n)) (done.other_lines k (omega arith)))
    more.other_timers more.other_lines

-- where the other timers are idle it is whole
pub run-end : (k : ℕ) (tsc : ℕ → ℕ → ℕ) (from n : ℕ) (a b : ApicsParts) → IsRunBelow k tsc from n a b
    → ((j : ℕ) → k ≤ j → j < 64 → is_idle (timer_at j b) ≡ true) → b ≡ run tsc from n a
run-end k tsc from n a b done idle =
    let all = done-all k _ _ a b done
    (λ j after less. timer-idle tsc from n j a (before j after less))
    (λ j after less. line-idle tsc from n j a (before j after less)) in
    all ∙ runs tsc from n a _ _ refl refl
  where
    before : (j : ℕ) → k ≤ j → j < 64 → is_idle (timer_at j a) ≡ true
    before j after less = ap is_idle (sym (done.other_timers j after)) ∙ idle j after less

-- the run of a span
pub span-run : (span : Span) (clock : TscClock) (tscs : List Tsc) (from to : ℕ) (a : ApicsParts) → span.clock ≡ clock → span.from ≡ from → span.to ≡ to
    → run (λ k. tsc_in span.clock (get_or tscs k no_tsc)) span.from (length_of span) a
    ≡ run (tsc_by_time clock tscs) from (to - from) a
span-run span clock tscs from to a e f g =
    ap (λ (c : TscClock). run (λ k. tsc_in c (get_or tscs k no_tsc)) span.from (span.to - span.from) a) e
    ∙ ap (λ (x : ℕ). run (λ k. tsc_in clock (get_or tscs k no_tsc)) x (span.to - x) a) f
    ∙ ap (λ (x : ℕ). run (λ k. tsc_in clock (get_or tscs k no_tsc)) from (x - from) a) g

-- a look at one timer more
pub looked-more : (k : ℕ) (tsc : ℕ → ℕ) (a b c : ApicsParts) → IsLookedBelow k tsc a b → IsLookedAt k (tsc k) b c
    → IsLookedBelow (k + 1) tsc a c
looked-more k tsc a b c done more =
    let same : timer_at k b ≡ timer_at k a = done.other_timers k (omega arith) in
    done-more k _ _ a b c done more.joined
    (more.timer ∙ ap (looked (tsc k)) same)
    (more.line ∙ ap (λ (p : ApicParts). ticked_where (looks_due (tsc k) p) (line_at k b)) same
    ∙ ap (ticked_where (looks_due (tsc k) (timer_at k a))) (done.other_lines k (omega arith)))
    more.other_timers more.other_lines

-- a look at an idle timer
pub idle-unreached : (x : ℕ) (p : ApicParts) → is_idle p ≡ true → is_reached p.deadline x ≡ false
idle-unreached x p idle = ap (λ (d : ℕ). is_reached d x) (idle_parts p idle).1

pub never-due : (x : ℕ) (p : ApicParts) → is_reached p.deadline x ≡ false → looks_due x p ≡ false
never-due x p none = ap (λ (b : Bool). not (is_masked p) && b) none ∙ by (not (is_masked p))
  where
    by : (m : Bool) → (m && false) ≡ false
    by true = refl
    by false = refl

-- a look begins with the first timer that isn't idle
pub looked-start : (k : ℕ) (tsc : ℕ → ℕ) (a : ApicsParts) → AreApicPlaces a → ((j : ℕ) → j < k → is_idle (timer_at j a) ≡ true) → IsLookedBelow k tsc a a
looked-start k tsc a are idle =
    done-none k _ _ a are
    (λ j less. looked-quiet (tsc j) (timer_at j a) (idle-unreached (tsc j) (timer_at j a) (idle j less)))
    (λ j less. ap (λ (d : Bool). ticked_where d (line_at j a)) (never-due (tsc j) (timer_at j a) (idle-unreached (tsc j) (timer_at j a) (idle j less))))

looked-rest : (k : ℕ) (tsc : ℕ → ℕ) (a b : ApicsParts) → IsLookedBelow k tsc a b
    → ((j : ℕ) → k ≤ j → j < 64 → is_reached (timer_at j a).deadline (tsc j) ≡ false) → b ≡ looked_all tsc a
looked-rest k tsc a b done quiet =
    let all = done-all k _ _ a b done
    (λ j after less. looked-quiet (tsc j) (timer_at j a) (quiet j after less))
    (λ j after less. ap (λ (d : Bool). ticked_where d (line_at j a)) (never-due (tsc j) (timer_at j a) (quiet j after less))) in
    all ∙ looks-parts tsc a

pub looked-end : (k : ℕ) (tsc : ℕ → ℕ) (a b : ApicsParts) → IsLookedBelow k tsc a b
    → ((j : ℕ) → k ≤ j → j < 64 → is_idle (timer_at j b) ≡ true) → b ≡ looked_all tsc a
looked-end k tsc a b done idle = looked-rest k tsc a b done (λ j after less.
    idle-unreached (tsc j) (timer_at j a) (ap is_idle (sym (done.other_timers j after)) ∙ idle j after less))

-- a look where no deadline is armed
pub looked-none : (tsc : ℕ → ℕ) (a : ApicsParts) → AreApicPlaces a → ((j : ℕ) → j < 64 → (timer_at j a).deadline ≡ 0) → a ≡ looked_all tsc a
looked-none tsc a are none =
    looked-rest 0 tsc a a (looked-start 0 tsc a are (λ j less. absurd (omega (arith, less)))) (λ j after less.
    ap (λ (d : ℕ). is_reached d (tsc j)) (none j less))
