-- Who gets interrupts, by the routes of a header.
use Rattle.std.specs.Prelude.{
  ℕ,
  ◌+◌,
  Bool,
  List,
  [],
  ◌∷◌,
  map,
  slice_index,
  slice_index_or,
  Option,
  Some,
  None,
  is_some,
  unwrap_or,
  if◌then◌else◌,
}
use Rattle.std.specs.List.{list_any}
use Rattle.irq_edges.specs.Lines.{line_numbers}
use Rattle.edge_hooks.specs.declared.deliveries.Delivery.{Delivery}
use Rattle.trace_blocks.specs.declared.deliveries.Deliveries.{Deliveries}

-- the places of the six lines
abbrev pub six : List ℕ
six = 0 ∷ 1 ∷ 2 ∷ 3 ∷ 4 ∷ 5 ∷ []

-- whether any line has a route
abbrev pub any_route : List (Option Delivery) → Bool
any_route routes = list_any (λ place. is_some (slice_index_or routes place None)) six

-- a line without a route goes to processor 0, with the vector 30h plus its number (own)
abbrev pub by_default : ℕ → Delivery
by_default line = record { cpu = 0; vector = 0x30 + line }

-- who gets the rises of the line at a place, where any line has a route
abbrev pub delivery_at : List (Option Delivery) → ℕ → Delivery
delivery_at routes place =
    unwrap_or (slice_index_or routes place None) (by_default (slice_index line_numbers place))

-- who gets the rises of all lines, by the routes of a header: nobody where no line has one; and the
-- messages, where there are so many processors
unfoldable pub deliveries_of : ℕ → List (Option Delivery) → Deliveries
deliveries_of cpus routes = record {
  cpus = cpus;
  lines = map (λ place. if any_route routes then Some (delivery_at routes place) else None) six;
}
