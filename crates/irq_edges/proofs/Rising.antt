-- The edges of the first nanosecond in which a line goes up.
use Rattle.std.proofs.Common.{◌≡◌, ℕ, ◌+◌, ◌<◌, ◌≤◌, List, [], ◌∷◌, ◌++◌, length, get_or, drop, Option, Some, None}
use Rattle.std.proofs.Common.{refl, ap, ◌∙◌, inl, inr, arith}
use Rattle.std.specs.Prelude.{Contains}
use Rattle.std.proofs.lemmas.Bool.{cases_lt, cases_eq, le-leb, lt-leb, ne_eqb, eq-eqb}
use Rattle.std.proofs.lemmas.List.{drop_more}
use Rattle.std.proofs.lemmas.List.Elements.{Contains-append_right}
use Rattle.irq_edges.specs.declared.edges.Edge.{Edge}
use Rattle.irq_edges.specs.Lines.{change, changes}
use Rattle.irq_edges.specs.Rises.{is_up_at, levels_at}
use Rattle.irq_edges.specs.private.Rises.{rise_of, rising}

-- at a place, the edge of that line comes first
pub rising-drop : (t : ℕ) (ns : List ℕ) (us : List (Option ℕ)) (i : ℕ) (u : Option ℕ) → i < length ns → length us ≡ length ns
    → rising t (drop i ns) (drop i us) ≡ rise_of t (get_or ns i 0) (get_or us i u) ++ rising t (drop (i + 1) ns) (drop (i + 1) us)
rising-drop t ns us i u h same =
    let hu : i < length us = omega arith in
    rw (drop_more ns i 0 h, drop_more us i u hu) refl

-- a line that rises at t or later, or rose by `at`, has the edge of t
one-rise : (at t n : ℕ) (u : Option ℕ) → at < t → ((r : ℕ) → u ≡ Some r → at < r → t ≤ r) → change t n (is_up_at at u) (is_up_at t u) ≡ rise_of t n u
one-rise at t n None before later = refl
one-rise at t n (Some r) before later = elim (cases_lt at r) [
  | inr early ↦ rw (le-leb r at early, le-leb r t (omega arith), ne_eqb r t (λ e. absurd (omega (arith, e)))) refl
  | inl behind ↦ elim (cases_eq r t) [
    | inl now ↦ rw (lt-leb r at behind, le-leb r t (omega (arith, now)), eq-eqb r t now) refl
    | inr other ↦
        let past : t ≤ r = later r refl behind in
        rw (lt-leb r at behind, lt-leb r t (omega (arith, other)), ne_eqb r t other) refl
  ]
]

pub changes-rising : (at t : ℕ) (ns : List ℕ) (us : List (Option ℕ)) → at < t → ((r : ℕ) → Contains us (Some r) → at < r → t ≤ r)
    → changes t ns (levels_at at us) (levels_at t us) ≡ rising t ns us
changes-rising at t [] us before later = refl
changes-rising at t (n ∷ ns) [] before later = refl
changes-rising at t (n ∷ ns) (u ∷ us) before later =
    ap (λ (es : List Edge). es ++ changes t ns (levels_at at us) (levels_at t us)) (one-rise at t n u before (λ r e. later r (0, omega arith, e)))
    ∙ ap (λ (es : List Edge). rise_of t n u ++ es)
    (changes-rising at t ns us before (λ r c. later r (Contains-append_right (u ∷ []) us (Some r) c)))
