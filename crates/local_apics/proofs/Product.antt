-- Many nanoseconds, each timer by itself.
use Rattle.std.proofs.Common.{◌≡◌, ℕ, zero, suc, ◌+◌, ◌<◌, Bool, true, false, cond, List, length, get_or, refl, sym, ap, ◌∙◌, arith}
use Rattle.tick_policy.specs.declared.parts.TickParts.{TickParts}
use Rattle.tick_policy.specs.Line.{ticked_times}
use Rattle.tick_policy.specs.Stretch.{ticked_where}
use Rattle.lapic_timer.specs.declared.parts.ApicParts.{ApicParts}
use Rattle.lapic_timer.specs.Stretch.{nanosecond, nanoseconds}
use Rattle.local_apics.specs.declared.parts.ApicsParts.{ApicsParts}
use Rattle.local_apics.specs.Parts.{is_idle}
use Rattle.local_apics.specs.Places.{each, no_line, no_timer, timer_at}
use Rattle.tick_policy.proofs.Ticks.{ticked_times-zero}
use Rattle.local_apics.specs.Nanosecond.{tick_with, at_nanosecond, run}
use Rattle.local_apics.specs.private.Stretch.{ticks_in, parted}
use Rattle.local_apics.proofs.Places.{each-each, each-same, each-none, each-at, each-still}
use Rattle.local_apics.proofs.Ticks.{idle_parts, nanoseconds-idle, ticks_in-idle}

abbrev pub both : List ApicParts → List TickParts → ApicsParts
both ts ls = record { timers = ts; lines = ls }

pub same_parts : (ts us : List ApicParts) (ls ms : List TickParts) → ts ≡ us → ls ≡ ms → both ts ls ≡ both us ms
same_parts ts us ls ms e f = ap (λ (xs : List ApicParts). both xs ls) e ∙ ap (λ (xs : List TickParts). both us xs) f

ticked-more : (b : Bool) (n : ℕ) (l : TickParts) → ticked_where b (ticked_times n l) ≡ ticked_times (cond b (suc n) n) l
unfolding ticked_times
ticked-more true n l = refl
ticked-more false n l = refl

pub timer-is : (tsc : ℕ → ℕ → ℕ) (from n k : ℕ) (ts : List ApicParts)
    → get_or (each (λ i p. nanoseconds (tsc i) from n p) 0 ts) k no_timer ≡ nanoseconds (tsc k) from n (get_or ts k no_timer)
timer-is tsc from n k ts =
    each-at (λ i p. nanoseconds (tsc i) from n p) no_timer (λ i. nanoseconds-idle (tsc i) from n no_timer refl refl) 0 k ts
    ∙ ap (λ (j : ℕ). nanoseconds (tsc j) from n (get_or ts k no_timer)) (omega arith)

step : (tsc : ℕ → ℕ → ℕ) (from n : ℕ) (a : ApicsParts) → at_nanosecond (λ k. tsc k (from + n + 1)) (parted tsc from n a) ≡ parted tsc from (suc n) a
unfolding at_nanosecond parted
step tsc from n a =
    same_parts _ _ _ _
    (each-each (λ k p. nanosecond (tsc k (from + n + 1)) p) (λ k p. nanoseconds (tsc k) from n p) 0 a.timers)
    (each-each (λ k l. ticked_where (tick_with (tsc k (from + n + 1)) (get_or (each (λ i p. nanoseconds (tsc i) from n p) 0 a.timers) k no_timer)) l)
    (λ k l. ticked_times (ticks_in (tsc k) from (timer_at k a) n) l) 0 a.lines
    ∙ each-same (λ k l. ticked_where (tick_with (tsc k (from + n + 1)) (get_or (each (λ i p. nanoseconds (tsc i) from n p) 0 a.timers) k no_timer))
    (ticked_times (ticks_in (tsc k) from (timer_at k a) n) l)) (λ k l. ticked_times (ticks_in (tsc k) from (timer_at k a) (suc n)) l) line 0 a.lines)
  where
    line : (k : ℕ) (l : TickParts) → ticked_where (tick_with (tsc k (from + n + 1)) (get_or (each (λ i p. nanoseconds (tsc i) from n p) 0 a.timers) k no_timer))
        (ticked_times (ticks_in (tsc k) from (timer_at k a) n) l) ≡ ticked_times (ticks_in (tsc k) from (timer_at k a) (suc n)) l
    line k l =
        ap (λ (p : ApicParts). ticked_where (tick_with (tsc k (from + n + 1)) p) (ticked_times (ticks_in (tsc k) from (timer_at k a) n) l))
        (timer-is tsc from n k a.timers)
        ∙ ticked-more (tick_with (tsc k (from + n + 1)) (nanoseconds (tsc k) from n (timer_at k a))) (ticks_in (tsc k) from (timer_at k a) n) l

none : (tsc : ℕ → ℕ → ℕ) (from : ℕ) (a : ApicsParts) → a ≡ parted tsc from 0 a
unfolding parted ticked_times
none tsc from a = same_parts _ _ _ _ (sym (each-none (λ k p. p) (λ k p. refl) 0 a.timers)) (sym (each-none (λ k l. l) (λ k l. refl) 0 a.lines))

pub run-parted : (tsc : ℕ → ℕ → ℕ) (from n : ℕ) (a : ApicsParts) → run tsc from n a ≡ parted tsc from n a
run-parted tsc from zero a = none tsc from a
run-parted tsc from (suc n) a = ap (at_nanosecond (λ k. tsc k (from + n + 1))) (run-parted tsc from n a) ∙ step tsc from n a

parts : (tsc : ℕ → ℕ → ℕ) (from n : ℕ) (a : ApicsParts)
    → both (each (λ k p. nanoseconds (tsc k) from n p) 0 a.timers) (each (λ k l. ticked_times (ticks_in (tsc k) from (timer_at k a) n) l) 0 a.lines)
    ≡ parted tsc from n a
unfolding parted
parts tsc from n a = refl

-- lists that are those after the nanoseconds
pub runs : (tsc : ℕ → ℕ → ℕ) (from n : ℕ) (a : ApicsParts) (ts : List ApicParts) (ls : List TickParts)
    → ts ≡ each (λ k p. nanoseconds (tsc k) from n p) 0 a.timers
    → ls ≡ each (λ k l. ticked_times (ticks_in (tsc k) from (timer_at k a) n) l) 0 a.lines → both ts ls ≡ run tsc from n a
runs tsc from n a ts ls e f = same_parts _ _ _ _ e f ∙ parts tsc from n a ∙ sym (run-parted tsc from n a)

-- where all timers are idle, nothing runs
pub run-idle : (tsc : ℕ → ℕ → ℕ) (from n : ℕ) (a : ApicsParts) → length a.timers ≡ 64 → length a.lines ≡ 64
    → ((k : ℕ) → k < 64 → is_idle (timer_at k a) ≡ true) → run tsc from n a ≡ a
run-idle tsc from n a long lines idle =
    sym (runs tsc from n a a.timers a.lines
    (sym (each-still (λ k p. nanoseconds (tsc k) from n p) no_timer a.timers (λ i less.
    let idle_both : ((timer_at i a).current ≡ 0) × ((timer_at i a).deadline ≡ 0) = idle_parts (timer_at i a) (idle i (omega (arith, less, long))) in
    nanoseconds-idle (tsc i) from n (timer_at i a) idle_both.0 idle_both.1)))
    (sym (each-still (λ k l. ticked_times (ticks_in (tsc k) from (timer_at k a) n) l) no_line a.lines (λ i less.
    let idle_both : ((timer_at i a).current ≡ 0) × ((timer_at i a).deadline ≡ 0) = idle_parts (timer_at i a) (idle i (omega (arith, less, lines))) in
    ap (λ (m : ℕ). ticked_times m (get_or a.lines i no_line)) (ticks_in-idle (tsc i) from n (timer_at i a) idle_both.0 idle_both.1)
    ∙ ticked_times-zero (get_or a.lines i no_line)))))
