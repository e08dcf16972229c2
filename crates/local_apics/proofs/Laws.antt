-- What a run and a look make of the lines, and the next tick.
use Rattle.std.proofs.Common.{◌≡◌, ℕ, ◌+◌, ◌-◌, ◌<◌, ◌≤◌, length, get_or, sym, ap, ◌∙◌, arith}
use Rattle.tick_policy.specs.declared.parts.TickParts.{TickParts}
use Rattle.tick_policy.specs.Line.{ticked_times}
use Rattle.tick_policy.specs.Stretch.{ticked_where}
use Rattle.tick_policy.proofs.Ticks.{due_ticked_times}
use Rattle.local_apics.specs.declared.parts.ApicsParts.{ApicsParts}
use Rattle.local_apics.specs.Parts.{AreApicPlaces, AreIdle}
use Rattle.local_apics.specs.Places.{each, no_line, timer_at, line_at}
use Rattle.local_apics.specs.Nanosecond.{run, looks_due, looked_all}
use Rattle.local_apics.specs.private.Stretch.{ticks_in, parted}
use Rattle.local_apics.proofs.Places.{each-in}
use Rattle.local_apics.proofs.Product.{run-parted}
use Rattle.local_apics.proofs.Joins.{due-where}
use Rattle.local_apics.proofs.Below.{looked-start, looked-end}
use Rattle.local_apics.proofs.Ticks.{ticks_in-few}

pub line-run : (tsc : ℕ → ℕ → ℕ) (from n k : ℕ) (a : ApicsParts) → k < length a.lines
    → line_at k (run tsc from n a) ≡ ticked_times (ticks_in (tsc k) from (timer_at k a) n) (line_at k a)
unfolding parted
line-run tsc from n k a inside =
    let g : ℕ → TickParts → TickParts = λ j l. ticked_times (ticks_in (tsc j) from (timer_at j a) n) l in
    ap (line_at k) (run-parted tsc from n a) ∙ each-in g no_line 0 k a.lines inside ∙ ap (λ (j : ℕ). g j (line_at k a)) (omega arith)

-- a nanosecond brings a line one tick at most ..
pub due-run : (tsc : ℕ → ℕ → ℕ) (from n k : ℕ) (a : ApicsParts) → k < length a.lines
    → (line_at k (run tsc from n a)).counts.due ≤ (line_at k a).counts.due + n
due-run tsc from n k a inside =
    let m : ℕ = ticks_in (tsc k) from (timer_at k a) n in
    let e : (line_at k (run tsc from n a)).counts.due ≡ (line_at k a).counts.due + m =
    ap (λ (l : TickParts). l.counts.due) (line-run tsc from n k a inside) ∙ due_ticked_times m (line_at k a) in
    omega (arith, e, ticks_in-few (tsc k) from n (timer_at k a))

-- .. and a look likewise
pub due-looked_all : (tsc : ℕ → ℕ) (k : ℕ) (a : ApicsParts) → k < length a.lines
    → (line_at k (looked_all tsc a)).counts.due ≤ (line_at k a).counts.due + 1
unfolding looked_all
due-looked_all tsc k a inside =
    let g : ℕ → TickParts → TickParts = λ j l. ticked_where (looks_due (tsc j) (timer_at j a)) l in
    let e : (get_or (each g 0 a.lines) k no_line).counts.due ≡ (g k (line_at k a)).counts.due =
    ap (λ (l : TickParts). l.counts.due) (each-in g no_line 0 k a.lines inside ∙ ap (λ (j : ℕ). g j (line_at k a)) (omega arith)) in
    omega (arith, e, due-where (looks_due (tsc k) (timer_at k a)) (line_at k a))

-- idle timers, as all are where there is no processor
pub look-idle : (tsc : ℕ → ℕ) (a : ApicsParts) → AreApicPlaces a → AreIdle a → looked_all tsc a ≡ a
look-idle tsc a are idle = sym (looked-end 0 tsc a a (looked-start 0 tsc a are (λ j less. absurd (omega (arith, less)))) (λ k after less. idle k less))
