-- Words of the bodies of `emit` and `next_rise`.
use Rattle.std.specs.Prelude.{
  ℕ,
  suc,
  Bool,
  true,
  false,
  ◌&&◌,
  ◌==◌,
  nat_lt,
  nat_le,
  unwrap_or,
  if◌then◌else◌,
}
use Rattle.std.specs.Prelude.{List, [], ◌∷◌, ◌++◌, Option, Some, None}
use Rattle.irq_edges.specs.declared.edges.Edge.{Edge}
use Rattle.irq_edges.specs.Rises.{is_up_at}

-- how many lines are down at t
abbrev pub down_at : ℕ → List (Option ℕ) → ℕ
down_at t [] = 0
down_at t (u ∷ us) = if is_up_at t u then down_at t us else suc (down_at t us)

-- the earlier of a first rise and that of one line more, where that falls after `at`, up to `to`
abbrev pub earlier_rise : ℕ → ℕ → Option ℕ → Option ℕ → Option ℕ
earlier_rise at to next None = next
earlier_rise at to next (Some r) =
    if nat_lt at r && nat_le r (unwrap_or next to) then Some r else next

-- whether a line that is up from then on goes up at t
abbrev pub rises_at : ℕ → Option ℕ → Bool
rises_at t None = false
rises_at t (Some r) = r == t

-- the edge of such a line at t
abbrev pub rise_of : ℕ → ℕ → Option ℕ → List Edge
rise_of t n u = if rises_at t u then record { at = t; line = n; up = true } ∷ [] else []

-- the edges of lines with these numbers at t, in their order
abbrev pub rising : ℕ → List ℕ → List (Option ℕ) → List Edge
rising t [] us = []
rising t (n ∷ ns) [] = []
rising t (n ∷ ns) (u ∷ us) = rise_of t n u ++ rising t ns us

-- the edge of a line with that number after `from` and up to `to`
abbrev pub edge_within : ℕ → ℕ → ℕ → Option ℕ → List Edge
edge_within from to n None = []
edge_within from to n (Some r) =
    if nat_lt from r && nat_le r to then record { at = r; line = n; up = true } ∷ [] else []

-- such edges line by line, in order of the lines and not of time
abbrev pub edges_within : ℕ → ℕ → List ℕ → List (Option ℕ) → List Edge
edges_within from to [] us = []
edges_within from to (n ∷ ns) [] = []
edges_within from to (n ∷ ns) (u ∷ us) = edge_within from to n u ++ edges_within from to ns us

-- an edge or none as a list
abbrev pub listed : Option Edge → List Edge
listed None = []
listed (Some e) = e ∷ []
