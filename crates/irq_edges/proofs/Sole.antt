-- A stretch in which one line goes up.
use Rattle.std.proofs.Common.{◌≡◌, ℕ, zero, suc, ◌+◌, ◌-◌, ◌<◌, ◌≤◌, Bool, true, false, List, [], ◌∷◌, ◌++◌, length, get_or, drop, Option, Some, None}
use Rattle.std.proofs.Common.{refl, sym, ap, ◌∙◌, inl, inr, arith}
use Rattle.std.specs.Prelude.{◌⊎◌}
use Rattle.std.proofs.lemmas.Bool.{cases_lt, lt-ltb, le-ltb, le-leb, lt-leb}
use Rattle.std.proofs.lemmas.List.{drop_more}
use Rattle.irq_edges.specs.declared.edges.Edge.{Edge}
use Rattle.irq_edges.specs.Lines.{change}
use Rattle.irq_edges.specs.Rises.{is_up_at, levels_at, rises_of, IsNextRise}
use Rattle.irq_edges.specs.private.Rises.{edge_within, edges_within}
use Rattle.irq_edges.proofs.EdgesOf.{changes-same}
use Rattle.irq_edges.proofs.UpFrom.{Contains-cons_cases, is_up_at-still, levels_at-still}
use Rattle.irq_edges.proofs.RisesOf.{rises_of-zero, rises_of-more, rises_of-on, rises_of-end}

-- at a place, the edge of that line comes first
pub edges_within-drop : (from to : ℕ) (ns : List ℕ) (us : List (Option ℕ)) (i : ℕ) (u : Option ℕ) → i < length ns → length us ≡ length ns
    → edges_within from to (drop i ns) (drop i us)
    ≡ edge_within from to (get_or ns i 0) (get_or us i u) ++ edges_within from to (drop (i + 1) ns) (drop (i + 1) us)
edges_within-drop from to ns us i u h same =
    let hu : i < length us = omega arith in
    rw (drop_more ns i 0 h, drop_more us i u hu) refl

-- no rise after `from` and up to `to`
abbrev Quiet : ℕ → ℕ → Option ℕ → Type 0
Quiet from to u = (r : ℕ) → u ≡ Some r → from < r → to < r

record Still (from to n : ℕ) (u : Option ℕ) : Type 0 where
  none : edge_within from to n u ≡ []
  quiet : Quiet from to u

-- a rise in between
record Loud (from to n : ℕ) (u : Option ℕ) : Type 0 where
  at : ℕ
  is : u ≡ Some at
  behind : from < at
  inside : at ≤ to
  edge : edge_within from to n u ≡ record { at = at; line = n; up = true } ∷ []

-- a line has the one or the other
within : (from to n : ℕ) (u : Option ℕ) → Still from to n u ⊎ Loud from to n u
within from to n None = inl (record { none = refl; quiet = λ r e lt. cc })
within from to n (Some r) = elim (cases_lt from r) [
  | inr early ↦ inl (record { none = rw (le-ltb from r early) refl; quiet = λ s e lt. let same : r ≡ s = cc in absurd (omega arith) })
  | inl behind ↦ elim (cases_lt to r) [
    | inl late ↦ inl (record {
      none = rw (lt-ltb from r behind, lt-leb r to late) refl;
      quiet = λ s e lt. let same : r ≡ s = cc in omega arith;
    })
    | inr inside ↦ inr (record {
      at = r;
      is = refl;
      behind = behind;
      inside = inside;
      edge = rw (lt-ltb from r behind, le-leb r to inside) refl;
    })
  ]
]

-- a quiet line has no edges
rises_of-quiet : (n : ℕ) (ns : List ℕ) (u : Option ℕ) (us : List (Option ℕ)) (from to k : ℕ) → Quiet from to u → from + k ≤ to
    → rises_of (n ∷ ns) (u ∷ us) from k ≡ rises_of ns us from k
rises_of-quiet n ns u us from to zero q h = rises_of-zero (n ∷ ns) (u ∷ us) from ∙ sym (rises_of-zero ns us from)
rises_of-quiet n ns u us from to (suc k) q h =
    let before : is_up_at (from + k) u ≡ is_up_at from u = is_up_at-still from (from + k) u (omega arith) (λ r e lt. omega (arith, q r e lt)) in
    let after : is_up_at (from + k + 1) u ≡ is_up_at from u = is_up_at-still from (from + k + 1) u (omega arith) (λ r e lt. omega (arith, q r e lt)) in
    rises_of-more (n ∷ ns) (u ∷ us) from k
    ∙ rw (before, after, rises_of-quiet n ns u us from to k q (omega arith), same (from + k + 1) n (is_up_at from u)) (sym (rises_of-more ns us from k))
  where
    same : (at n : ℕ) (b : Bool) → change at n b b ≡ []
    same at n true = refl
    same at n false = refl

-- lines with no edges are quiet
all-quiet : (from to : ℕ) (ns : List ℕ) (us : List (Option ℕ)) → length ns ≡ length us → edges_within from to ns us ≡ [] → IsNextRise us from to None
all-quiet from to [] us h e = λ t c lt. absurd (omega (arith, c.1))
all-quiet from to (n ∷ ns) [] h e = λ t c lt. absurd (omega arith)
all-quiet from to (n ∷ ns) (u ∷ us) h e = elim (within from to n u) [
  | inl still ↦
      let rest : edges_within from to ns us ≡ [] = rw still.none at e in
      λ t c lt. elim (Contains-cons_cases u (Some t) us c) [
        | inl this ↦ still.quiet t this lt
        | inr other ↦ all-quiet from to ns us (omega arith) rest t other lt
      ]
  | inr loud ↦ let first = rw loud.edge at e in cc
]

-- a first line that goes up, and no other
loud-first : (from to n : ℕ) (ns : List ℕ) (u : Option ℕ) (us : List (Option ℕ)) (loud : Loud from to n u) → IsNextRise us from to None
    → rises_of (n ∷ ns) (u ∷ us) from (to - from) ≡ record { at = loud.at; line = n; up = true } ∷ []
loud-first from to n ns u us loud quiet =
    let r = loud.at in
    let next : IsNextRise (u ∷ us) from to (Some r) = (
      loud.behind,
      loud.inside,
      (0, omega arith, loud.is),
      λ t c lt. elim (Contains-cons_cases u (Some t) us c) [
        | inl this ↦ let same : Some r ≡ Some t = sym loud.is ∙ this in let e : r ≡ t = cc in omega arith
        | inr other ↦ omega (arith, loud.inside, quiet t other lt)
      ],
    ) in
    let last : IsNextRise (u ∷ us) r to None = λ t c lt. elim (Contains-cons_cases u (Some t) us c) [
      | inl this ↦ let same : Some r ≡ Some t = sym loud.is ∙ this in let e : r ≡ t = cc in absurd (omega arith)
      | inr other ↦ quiet t other (omega (arith, loud.behind))
    ] in
    let zero_ : from - from ≡ 0 = omega arith in
    let down : is_up_at from u ≡ false = ap (is_up_at from) loud.is ∙ lt-leb r from loud.behind in
    let up : is_up_at r u ≡ true = ap (is_up_at r) loud.is ∙ le-leb r r (omega arith) in
    let others : levels_at r us ≡ levels_at from us = levels_at-still from r us (omega (arith, loud.behind))
    (λ s c lt. omega (arith, loud.inside, quiet s c lt)) in
    rises_of-end (n ∷ ns) (u ∷ us) from r to (omega (arith, loud.behind)) loud.inside last
    ∙ rises_of-on (n ∷ ns) (u ∷ us) from from to r (omega arith) next
    ∙ rw (zero_, rises_of-zero (n ∷ ns) (u ∷ us) from, down, up, others, changes-same r ns (levels_at from us)) refl

-- the edges of a stretch with one edge
pub rises_of-sole : (from to : ℕ) (ns : List ℕ) (us : List (Option ℕ)) (e : Edge) → from ≤ to → length ns ≡ length us
    → edges_within from to ns us ≡ e ∷ [] → rises_of ns us from (to - from) ≡ e ∷ []
rises_of-sole from to [] us e h same one = cc
rises_of-sole from to (n ∷ ns) [] e h same one = cc
rises_of-sole from to (n ∷ ns) (u ∷ us) e h same one = elim (within from to n u) [
  | inl still ↦
      let rest : edges_within from to ns us ≡ e ∷ [] = rw still.none at one in
      rises_of-quiet n ns u us from to (to - from) still.quiet (omega arith) ∙ rises_of-sole from to ns us e h (omega arith) rest
  | inr loud ↦
      let all : record { at = loud.at; line = n; up = true } ∷ edges_within from to ns us ≡ e ∷ [] = rw loud.edge at one in
      let first : record { at = loud.at; line = n; up = true } ≡ e = cc in
      let rest : edges_within from to ns us ≡ [] = cc in
      loud-first from to n ns u us loud (all-quiet from to ns us (omega arith) rest) ∙ ap (λ (x : Edge). x ∷ []) first
]
