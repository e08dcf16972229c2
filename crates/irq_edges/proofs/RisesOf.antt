-- Lemmas on the edges of a stretch in which no line falls.
use Rattle.std.proofs.Common.{◌≡◌, ℕ, zero, suc, ◌+◌, ◌-◌, ◌<◌, ◌≤◌, Bool, List, [], ◌++◌, Option, Some, None, refl, sym, ap, ◌∙◌, arith, append_assoc}
use Rattle.std.proofs.lemmas.List.{append-nil}
use Rattle.irq_edges.specs.declared.edges.Edge.{Edge}
use Rattle.irq_edges.specs.Lines.{changes}
use Rattle.irq_edges.specs.Rises.{levels_at, rises_of, IsNextRise}
use Rattle.irq_edges.proofs.EdgesOf.{changes-same}
use Rattle.irq_edges.proofs.UpFrom.{levels_at-still}

-- no nanoseconds, no edges
pub rises_of-zero : (ns : List ℕ) (us : List (Option ℕ)) (t : ℕ) → rises_of ns us t 0 ≡ []
unfolding rises_of
rises_of-zero ns us t = refl

-- one nanosecond more
pub rises_of-more : (ns : List ℕ) (us : List (Option ℕ)) (t n : ℕ)
    → rises_of ns us t (suc n) ≡ rises_of ns us t n ++ changes (t + n + 1) ns (levels_at (t + n) us) (levels_at (t + n + 1) us)
unfolding rises_of
rises_of-more ns us t n = refl

-- while the levels stay there are no edges
rises_of-still : (ns : List ℕ) (us : List (Option ℕ)) (t n : ℕ) → ((j : ℕ) → j ≤ n → levels_at (t + j) us ≡ levels_at t us) → rises_of ns us t n ≡ []
rises_of-still ns us t zero still = rises_of-zero ns us t
rises_of-still ns us t (suc n) still =
    let here : levels_at (t + n) us ≡ levels_at t us = still n (omega arith) in
    let place : t + n + 1 ≡ t + suc n = omega arith in
    let next : levels_at (t + n + 1) us ≡ levels_at t us = ap (λ (s : ℕ). levels_at s us) place ∙ still (suc n) (omega arith) in
    rises_of-more ns us t n ∙ rw (rises_of-still ns us t n (λ j h. still j (omega arith)), here, next) (changes-same (t + n + 1) ns (levels_at t us))

-- stretches join
pub rises_of-add : (ns : List ℕ) (us : List (Option ℕ)) (t m n : ℕ) → rises_of ns us t (m + n) ≡ rises_of ns us t m ++ rises_of ns us (t + m) n
rises_of-add ns us t m zero =
    let e : m + 0 ≡ m = omega arith in
    rw (e, rises_of-zero ns us (t + m)) (sym (append-nil (rises_of ns us t m)))
rises_of-add ns us t m (suc n) =
    let e : m + suc n ≡ suc (m + n) = omega arith in
    let place : t + (m + n) ≡ t + m + n = omega arith in
    rw (e, rises_of-more ns us t (m + n), rises_of-more ns us (t + m) n, rises_of-add ns us t m n, place)
    (append_assoc (rises_of ns us t m) (rises_of ns us (t + m) n) (changes (t + m + n + 1) ns (levels_at (t + m + n) us) (levels_at (t + m + n + 1) us)))

-- where the levels stay until the last nanosecond, the edges are those of that one
rises_of-last : (ns : List ℕ) (us : List (Option ℕ)) (t n : ℕ) → ((j : ℕ) → j ≤ n → levels_at (t + j) us ≡ levels_at t us)
    → rises_of ns us t (suc n) ≡ changes (t + n + 1) ns (levels_at t us) (levels_at (t + n + 1) us)
rises_of-last ns us t n still =
    rises_of-more ns us t n ∙ rw (rises_of-still ns us t n still, still n (omega arith)) refl

-- up to the next rise the edges are those of its nanosecond
pub rises_of-next : (ns : List ℕ) (us : List (Option ℕ)) (at to r : ℕ) → IsNextRise us at to (Some r)
    → rises_of ns us at (r - at) ≡ changes r ns (levels_at at us) (levels_at r us)
rises_of-next ns us at to r next =
    let many : r - at ≡ suc (r - at - 1) = omega (arith, next.0) in
    let place : at + (r - at - 1) + 1 ≡ r = omega (arith, next.0) in
    let last : rises_of ns us at (suc (r - at - 1)) ≡ changes (at + (r - at - 1) + 1) ns (levels_at at us) (levels_at (at + (r - at - 1) + 1) us) =
    rises_of-last ns us at (r - at - 1) (λ j h. levels_at-still at (at + j) us (omega arith) (λ s c lt. omega (arith, next.0, next.3 s c lt))) in
    ap (rises_of ns us at) many ∙ last ∙ ap (λ (s : ℕ). changes s ns (levels_at at us) (levels_at s us)) place

-- before the next rise there are no edges
pub rises_of-before : (ns : List ℕ) (us : List (Option ℕ)) (at to r n : ℕ) → IsNextRise us at to (Some r) → at + n < r → rises_of ns us at n ≡ []
rises_of-before ns us at to r n next h =
    rises_of-still ns us at n (λ j w. levels_at-still at (at + j) us (omega arith) (λ s c lt. omega (arith, next.3 s c lt)))

-- where no line rises there are no edges
pub rises_of-none : (ns : List ℕ) (us : List (Option ℕ)) (at to n : ℕ) → IsNextRise us at to None → at + n ≤ to → rises_of ns us at n ≡ []
rises_of-none ns us at to n none h =
    rises_of-still ns us at n (λ j w. levels_at-still at (at + j) us (omega arith) (λ s c lt. omega (arith, none s c lt)))

-- with no further rise there are no further edges
pub rises_of-end : (ns : List ℕ) (us : List (Option ℕ)) (from at to : ℕ) → from ≤ at → at ≤ to → IsNextRise us at to None
    → rises_of ns us from (to - from) ≡ rises_of ns us from (at - from)
rises_of-end ns us from at to h k none =
    let many : to - from ≡ (at - from) + (to - at) = omega arith in
    let place : from + (at - from) ≡ at = omega arith in
    let quiet : rises_of ns us at (to - at) ≡ [] = rises_of-none ns us at to (to - at) none (omega arith) in
    ap (rises_of ns us from) many ∙ rises_of-add ns us from (at - from) (to - at) ∙ rw (place, quiet) (append-nil (rises_of ns us from (at - from)))

-- the edges up to the next rise
pub rises_of-on : (ns : List ℕ) (us : List (Option ℕ)) (from at to r : ℕ) → from ≤ at → IsNextRise us at to (Some r)
    → rises_of ns us from (r - from) ≡ rises_of ns us from (at - from) ++ changes r ns (levels_at at us) (levels_at r us)
rises_of-on ns us from at to r h next =
    let many : r - from ≡ (at - from) + (r - at) = omega (arith, next.0) in
    let place : from + (at - from) ≡ at = omega arith in
    ap (rises_of ns us from) many ∙ rises_of-add ns us from (at - from) (r - at) ∙ rw (place, rises_of-next ns us at to r next) refl

-- edges that are found nanosecond by nanosecond, from levels that are those of the times, are the edges of the times
pub run-edges : (ns : List ℕ) (us : List (Option ℕ)) (t : ℕ) (levels : ℕ → List Bool) (edges : ℕ → List Edge) → edges 0 ≡ []
    → ((j : ℕ) → edges (suc j) ≡ edges j ++ changes (t + j + 1) ns (levels j) (levels (suc j)))
    → (n : ℕ) → ((j : ℕ) → j ≤ n → levels j ≡ levels_at (t + j) us) → edges n ≡ rises_of ns us t n
run-edges ns us t levels edges none more zero is = none ∙ sym (rises_of-zero ns us t)
run-edges ns us t levels edges none more (suc n) is =
    let before : edges n ≡ rises_of ns us t n = run-edges ns us t levels edges none more n (λ j h. is j (omega arith)) in
    let here : levels n ≡ levels_at (t + n) us = is n (omega arith) in
    let place : t + suc n ≡ t + n + 1 = omega arith in
    let next : levels (suc n) ≡ levels_at (t + n + 1) us = is (suc n) (omega arith) ∙ ap (λ (s : ℕ). levels_at s us) place in
    more n ∙ rw (before, here, next) (sym (rises_of-more ns us t n))
