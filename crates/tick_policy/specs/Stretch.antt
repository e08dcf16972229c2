-- A tick line over a stretch of nanoseconds in which nobody acknowledges it (own). The `ticks j`
-- ticks of its source in the j nanoseconds after t come at most one a nanosecond, and a catch-up
-- point is each nanosecond that `slew` divides.
use Rattle.std.specs.Prelude.{◌≡◌, ◌≢◌, ℕ, zero, suc, ◌+◌, ◌%◌, ◌<◌, ◌≤◌, ◌↔◌, Bool, ◌==◌, ◌&&◌}
use Rattle.std.specs.Prelude.{nat_lt, nat_le, Option, Some, None, if◌then◌else◌}
use Rattle.clk_units.specs.Events.{CountsUp}
use Rattle.tick_policy.specs.declared.parts.TickParts.{TickParts}
use Rattle.tick_policy.specs.Line.{ticked, ticked_times, caught_up, is_waiting}

-- a tick is due, where b holds
abbrev pub ticked_where : Bool → TickParts → TickParts
ticked_where b l = if b then ticked l else l

-- a catch-up point, where b holds
abbrev pub caught_up_where : Bool → TickParts → TickParts
caught_up_where b l = if b then caught_up l else l

-- the line n nanoseconds after t: in each a tick, where the count grows, and then a catch-up point
unfoldable pub line_after : (ℕ → ℕ) → ℕ → ℕ → ℕ → TickParts → TickParts
line_after ticks slew t zero l = l
line_after ticks slew t (suc n) l =
    caught_up_where ((t + n + 1) % slew == 0)
    (ticked_where (nat_lt (ticks n) (ticks (suc n))) (line_after ticks slew t n l))

-- the same where the tick comes after the catch-up point, as that of a local APIC timer does
unfoldable pub line_after_points : (ℕ → ℕ) → ℕ → ℕ → ℕ → TickParts → TickParts
line_after_points ticks slew t zero l = l
line_after_points ticks slew t (suc n) l =
    ticked_where (nat_lt (ticks n) (ticks (suc n)))
    (caught_up_where ((t + n + 1) % slew == 0) (line_after_points ticks slew t n l))

-- the first catch-up point after t is t + c
pub record IsFirstPoint (slew t c : ℕ) : Type 0 where
  pub later : 0 < c
  pub divides : (t + c) % slew ≡ 0
  pub first : (j : ℕ) → 0 < j → j < c → (t + j) % slew ≢ 0

-- the first tick of the n nanoseconds after t comes at `first`, or none comes
abbrev pub IsFirstTick : (ℕ → ℕ) → ℕ → ℕ → Option ℕ → Type 0
IsFirstTick ticks t n None = (j : ℕ) → j ≤ n → ticks j ≡ 0
IsFirstTick ticks t n (Some at) = (j : ℕ) → j ≤ n → (0 < ticks j) ↔ (at ≤ t + j)

-- whether the first catch-up point comes by `to` and before the first tick; a tie is the tick's
abbrev pub is_caught : ℕ → ℕ → Option ℕ → Bool
is_caught point to None = nat_le point to
is_caught point to (Some at) = nat_le point to && nat_lt point at

-- the line at the end of a stretch: only the first catch-up point, before any tick, can bring it up
abbrev pub line_end : ℕ → ℕ → Option ℕ → ℕ → TickParts → TickParts
line_end point to first ticks l = ticked_times ticks (caught_up_where (is_caught point to first) l)

-- from when on the line is up in a stretch after `from`
abbrev pub up_from : ℕ → ℕ → ℕ → Option ℕ → TickParts → Option ℕ
up_from from point to first l =
    if l.up then Some from
    else (if is_caught point to first && is_waiting l then Some point else first)

-- what is known of a stretch: ticks by nanosecond, their number and first, the first catch-up point
pub record IsStretch (source : ℕ → ℕ) (slew from n point ticks : ℕ) (first : Option ℕ)
    : Type 0 where
  pub counts : CountsUp source
  pub number : source n ≡ ticks
  pub first_tick : IsFirstTick source from n first
  pub first_point : (c : ℕ) × (point ≡ from + c) × IsFirstPoint slew from c
