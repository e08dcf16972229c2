-- Runs of the devices, nanosecond by nanosecond, and the edges on the way.
use Rattle.std.specs.Prelude.{
  ◌≡◌,
  ◌≢◌,
  ℕ,
  zero,
  suc,
  ◌+◌,
  ◌-◌,
  ◌<◌,
  ◌≤◌,
  ◌^◌,
  List,
  [],
  ◌++◌,
  Option,
  Some,
  None,
}
use Rattle.clk_units.specs.declared.ranges.TheConstants.{RANGE_NS}
use Rattle.irq_edges.specs.declared.edges.Edge.{Edge}
use Rattle.irq_edges.specs.Lines.{changes, line_numbers}
use Rattle.board_devices.specs.declared.parts.DeviceParts.{DeviceParts}
use Rattle.board_devices.specs.Nanosecond.{at_nanosecond}
use Rattle.board_devices.specs.Lines.{levels}
use Rattle.board_devices.specs.Places.{line_at}

-- what a run leaves, and its edges
pub record Ran : Type 0 where
  pub state : DeviceParts
  pub edges : List Edge

-- the nanosecond t, with its edges after those before
unfoldable pub onward : ℕ → Ran → Ran
onward t r = let next : DeviceParts = at_nanosecond t r.state in
    record {
      state = next;
      edges = r.edges
          ++ changes t line_numbers (levels r.state) (levels next);
    }

-- the n nanoseconds that follow t
unfoldable pub run : ℕ → ℕ → DeviceParts → Ran
run t zero d = record { state = d; edges = [] }
run t (suc n) d = onward (t + n + 1) (run t n d)

-- a stretch that the devices may run: each line has room for a tick in each nanosecond
pub record IsStretch (from to : ℕ) (d : DeviceParts) : Type 0 where
  pub order : from ≤ to
  pub range : to < 2 ^ 59
  pub room : (k : ℕ) → k < 10 → (line_at k d).counts.due + (to - from) < 2 ^ 63

-- the least t with now < t < 2^59 at which the run has an edge, or none
abbrev pub IsNextEdge : ℕ → DeviceParts → Option ℕ → Type 0
IsNextEdge now d None = (run now (RANGE_NS - 1 - now) d).edges ≡ []
IsNextEdge now d (Some t) =
    (now < t) × (t < RANGE_NS) × ((run now (t - 1 - now) d).edges ≡ [])
    × ((run now (t - now) d).edges ≢ [])
