-- Lines that go up once at most, each given by the nanosecond from which on it is up, or none.
use Rattle.std.specs.Prelude.{ℕ, zero, suc, ◌+◌, ◌<◌, ◌≤◌, Bool, false, nat_le}
use Rattle.std.specs.Prelude.{List, [], ◌++◌, map, Contains, Option, Some, None}
use Rattle.irq_edges.specs.declared.edges.Edge.{Edge}
use Rattle.irq_edges.specs.Lines.{changes}

-- whether what is up from then on is up at t
abbrev pub is_up_at : ℕ → Option ℕ → Bool
is_up_at t None = false
is_up_at t (Some r) = nat_le r t

-- the levels of the lines at t
abbrev pub levels_at : ℕ → List (Option ℕ) → List Bool
levels_at t us = map (is_up_at t) us

-- the edges of the lines in the n nanoseconds after t: one nanosecond's after those before
unfoldable pub rises_of : List ℕ → List (Option ℕ) → ℕ → ℕ → List Edge
rises_of ns us t zero = []
rises_of ns us t (suc n) =
    rises_of ns us t n ++ changes (t + n + 1) ns (levels_at (t + n) us) (levels_at (t + n + 1) us)

-- `next` is the first time after `at` and up to `to` at which a line goes up, or there is none
abbrev pub IsNextRise : List (Option ℕ) → ℕ → ℕ → Option ℕ → Type 0
IsNextRise us at to None = (t : ℕ) → Contains us (Some t) → at < t → to < t
IsNextRise us at to (Some r) =
    (at < r) × (r ≤ to) × Contains us (Some r)
    × ((t : ℕ) → Contains us (Some t) → at < t → r ≤ t)
