-- The first rise of some lines, one line after the other.
use Rattle.std.proofs.Common.{◌≡◌, ℕ, ◌<◌, ◌≤◌, List, [], ◌∷◌, ◌++◌, Option, Some, None, refl, inl, inr, arith}
use Rattle.std.specs.Prelude.{unwrap_or}
use Rattle.std.proofs.lemmas.Bool.{cases_lt, lt-ltb, le-ltb, le-leb, lt-leb}
use Rattle.std.proofs.lemmas.List.Elements.{Contains-push, Contains-push_cases, Contains-append_left}
use Rattle.irq_edges.specs.Rises.{IsNextRise}
use Rattle.irq_edges.specs.private.Rises.{earlier_rise}

-- a rise that falls in between
earlier_rise-takes : (at to : ℕ) (next : Option ℕ) (r : ℕ) → at < r → r ≤ unwrap_or next to → earlier_rise at to next (Some r) ≡ Some r
earlier_rise-takes at to next r h k = rw (lt-ltb at r h, le-leb r (unwrap_or next to) k) refl

-- a rise that has been
earlier_rise-early : (at to : ℕ) (next : Option ℕ) (r : ℕ) → r ≤ at → earlier_rise at to next (Some r) ≡ next
earlier_rise-early at to next r h = rw (le-ltb at r h) refl

-- a rise that comes later
earlier_rise-late : (at to : ℕ) (next : Option ℕ) (r : ℕ) → at < r → unwrap_or next to < r → earlier_rise at to next (Some r) ≡ next
earlier_rise-late at to next r h k = rw (lt-ltb at r h, lt-leb r (unwrap_or next to) k) refl

-- one line more: a rise of it that comes first
taken : (us : List (Option ℕ)) (at to : ℕ) (next : Option ℕ) (r : ℕ) → IsNextRise us at to next → at < r → r ≤ unwrap_or next to
    → IsNextRise (us ++ Some r ∷ []) at to (Some r)
taken us at to None r next h k = (
  h,
  k,
  Contains-push us (Some r),
  λ t c lt. elim (Contains-push_cases us (Some r) (Some t) c) [
    | inl old ↦ omega (arith, next t old lt)
    | inr this ↦ let e : r ≡ t = cc in omega arith
  ],
)
taken us at to (Some s) r next h k = (
  h,
  omega arith,
  Contains-push us (Some r),
  λ t c lt. elim (Contains-push_cases us (Some r) (Some t) c) [
    | inl old ↦ omega (arith, next.3 t old lt)
    | inr this ↦ let e : r ≡ t = cc in omega arith
  ],
)

-- one line more whose rise doesn't come first
left : (us : List (Option ℕ)) (at to : ℕ) (next u : Option ℕ) → IsNextRise us at to next → ((r : ℕ) → u ≡ Some r → at < r → unwrap_or next to < r)
    → IsNextRise (us ++ u ∷ []) at to next
left us at to None u next later = λ t c lt. elim (Contains-push_cases us u (Some t) c) [
  | inl old ↦ next t old lt
  | inr this ↦ later t this lt
]
left us at to (Some s) u next later = (
  next.0,
  next.1,
  Contains-append_left us (u ∷ []) (Some s) next.2,
  λ t c lt. elim (Contains-push_cases us u (Some t) c) [
    | inl old ↦ next.3 t old lt
    | inr this ↦ omega (arith, later t this lt)
  ],
)

-- one line more
pub IsNextRise-push : (us : List (Option ℕ)) (at to : ℕ) (next u : Option ℕ) → IsNextRise us at to next
    → IsNextRise (us ++ u ∷ []) at to (earlier_rise at to next u)
IsNextRise-push us at to next None h = left us at to next None h (λ r e lt. cc)
IsNextRise-push us at to next (Some r) h = elim (cases_lt at r) [
  | inr early ↦ rw (earlier_rise-early at to next r early) (left us at to next (Some r) h (λ s e lt. let same : r ≡ s = cc in absurd (omega arith)))
  | inl behind ↦ elim (cases_lt (unwrap_or next to) r) [
    | inl late ↦ rw (earlier_rise-late at to next r behind late) (left us at to next (Some r) h (λ s e lt. let same : r ≡ s = cc in omega arith))
    | inr first ↦ rw (earlier_rise-takes at to next r behind first) (taken us at to next r h behind first)
  ]
]
