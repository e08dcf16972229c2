-- What calls ask and leave that take the devices and their tick lines over a stretch; private
-- contracts alone cite this.
use Rattle.std.specs.Prelude.{
  ◌≡◌,
  ◌≢◌,
  ℕ,
  ◌+◌,
  ◌-◌,
  ◌<◌,
  ◌≤◌,
  ◌^◌,
  Bool,
  true,
  if◌then◌else◌,
  Option,
  Some,
  None,
  IfSome,
  List,
  [],
  ◌∷◌,
  length,
  slice_index_or,
}
use Rattle.clk_units.specs.Pulses.{pulses_from}
use Rattle.rtc_registers.specs.Pulses.{rtc_pulsed_times}
use Rattle.irq_edges.specs.declared.edges.Edge.{Edge}
use Rattle.irq_edges.specs.Lines.{line_numbers, level_of}
use Rattle.hpet_comparator.specs.declared.stretch.Matches.{Matches}
use Rattle.hpet_registers.specs.declared.hpet.TheConstants.{HPET_HZ}
use Rattle.hpet_registers.specs.declared.parts.HpetParts.{HpetParts}
use Rattle.hpet_registers.specs.Stretch.{timer_matches}
use Rattle.tick_policy.specs.declared.parts.TickParts.{TickParts}
use Rattle.board_devices.specs.declared.parts.DeviceParts.{DeviceParts}
use Rattle.board_devices.specs.declared.stretch.Ticks.{Ticks}
use Rattle.board_devices.specs.declared.stretch.Span.{Span}
use Rattle.board_devices.specs.Lines.{levels}
use Rattle.board_devices.specs.Places.{line_at, no_line}
use Rattle.board_devices.specs.Run.{run}
use Rattle.board_devices.specs.Rises.{one_if, lifts}
use Rattle.board_devices.specs.private.Stretch.{end_of, up_of, timer_ticks, told_levels}

-- the devices after n more pulses of the MC146818's crystal
abbrev pub passed : ℕ → DeviceParts → DeviceParts
passed n d = record d { rtc = rtc_pulsed_times n d.rtc }

-- the devices after a run to `to`, and the levels on the way: as they were, or where `moved` holds by
-- the times from which on the lines are up
pub record HasAdvanced (from to : ℕ) (before after : DeviceParts) (moved : Bool)
    (times : List (Option ℕ)) : Type 0 where
  pub state : after ≡ (run from (to - from) before).state
  pub levels : (j : ℕ) → from + j ≤ to → levels (run from j before).state
      ≡ told_levels (from + j) (levels before) (if moved then Some times else None)
  pub due : (k : ℕ) → k < 10
      → (line_at k after).counts.due ≤ (line_at k before).counts.due + (to - from)

-- the edge of line 0 that goes up at a time, where there is one
abbrev pub rise_edges : Option ℕ → List Edge
rise_edges None = []
rise_edges (Some t) = record { at = t; line = 0; up = true } ∷ []

-- the devices after a run to `to` whose one edge, if it has any, is a rise of line 0
pub record HasTicked (from to : ℕ) (before after : DeviceParts) (rise : Option ℕ) : Type 0 where
  pub state : after ≡ (run from (to - from) before).state
  pub edges : (run from (to - from) before).edges ≡ rise_edges rise
  pub due : (k : ℕ) → k < 10
      → (line_at k after).counts.due ≤ (line_at k before).counts.due + (to - from)
  pub lifts : (n : ℕ) → lifts n (run from (to - from) before).edges
      + one_if (level_of line_numbers (levels before) n)
      ≡ one_if (level_of line_numbers (levels after) n)

-- the line at place k after a stretch, and from when on it is up; the others are as they were
pub record HasRunLine (k : ℕ) (span : Span) (ticks : Ticks) (before after : List TickParts)
    (since : Option ℕ) : Type 0 where
  pub places : length after ≡ 10
  pub here : slice_index_or after k no_line
      ≡ end_of span.point span.to ticks (slice_index_or before k no_line)
  pub others : (j : ℕ) → j ≢ k → slice_index_or after j no_line ≡ slice_index_or before j no_line
  pub up : since ≡ up_of span.from span.point span.to ticks (slice_index_or before k no_line)

-- no timer from `reach` on matched
pub record IsReach (reach : ℕ) (matches : List Matches) : Type 0 where
  pub places : reach ≤ 8
  pub none : (k : ℕ) → reach ≤ k → (timer_matches matches k).count ≡ 0

-- a stretch whose matches come within it, with room for their ticks
pub record CanRunTimers (span : Span) (matches : List Matches) (lines : List TickParts) : Type 0
  where
    pub order : span.from ≤ span.to
    pub range : span.to < 2 ^ 59
    pub inside : (k : ℕ) → k < 8 → IfSome (timer_matches matches k).first (λ j. j
        ≤ pulses_from HPET_HZ span.from (span.to - span.from))
    pub room : (k : ℕ) → k < 8 → (slice_index_or lines (k + 2) no_line).counts.due
        + (timer_matches matches k).count < 2 ^ 63

-- the lines of the timers of h after it; the others are as they were
pub record HaveRunTimers (span : Span) (h : HpetParts) (matches : List Matches)
    (before after : List TickParts) : Type 0 where
  pub places : length after ≡ 10
  pub front : (j : ℕ) → j < 2 → slice_index_or after j no_line ≡ slice_index_or before j no_line
  pub done : (k : ℕ) → k < h.timers → slice_index_or after (k + 2) no_line
      ≡ end_of span.point span.to (timer_ticks span.from k h (timer_matches matches k))
      (slice_index_or before (k + 2) no_line)
  pub rest : (j : ℕ) → h.timers + 2 ≤ j
      → slice_index_or after j no_line ≡ slice_index_or before j no_line

-- the first edge of a run after `now` and up to `to`, or none
abbrev pub IsEdgeBy : ℕ → ℕ → DeviceParts → Option ℕ → Type 0
IsEdgeBy now to d None = (run now (to - now) d).edges ≡ []
IsEdgeBy now to d (Some t) =
    (now < t) × (t ≤ to) × ((run now (t - 1 - now) d).edges ≡ []) × ((run now (t - now) d).edges ≢ [])
