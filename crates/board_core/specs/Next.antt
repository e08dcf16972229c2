-- When a line changes next, when a local APIC's timer ticks next, and when a message is sent next, if
-- no access comes.
use Rattle.std.specs.Prelude.{ℕ, zero, suc, ◌+◌, ◌-◌, List, [], ◌∷◌, Option, Some, None}
use Rattle.std.specs.Option.{option_or}
use Rattle.clk_units.specs.declared.ranges.TheConstants.{RANGE_NS}
use Rattle.irq_edges.specs.declared.edges.Edge.{Edge}
use Rattle.hpet_bursts.specs.Next.{next_message}
use Rattle.board_types.specs.declared.parts.BoardParts.{BoardParts}
use Rattle.board_devices.specs.declared.parts.DeviceParts.{DeviceParts}
use Rattle.board_devices.specs.Run.{run}
use Rattle.lapic_timer.specs.Deadline.{IsFirstAt}
use Rattle.local_apics.specs.Places.{timer_at}
use Rattle.local_apics.specs.Nanosecond.{ticks_at}
use Rattle.board_core.specs.Time.{now_of}
use Rattle.board_core.specs.Apics.{apics_in, tscs_by_time}

-- nanosecond t, where the run up to it has an edge
abbrev pub at_first_edge : ℕ → List Edge → Option ℕ
at_first_edge t [] = None
at_first_edge t (e ∷ es) = Some t

-- the first of the n nanoseconds that follow now in which a line changes
unfoldable pub first_edge : ℕ → ℕ → DeviceParts → Option ℕ
first_edge now zero d = None
first_edge now (suc n) d =
    option_or (first_edge now n d) (at_first_edge (now + n + 1) (run now (suc n) d).edges)

-- the first nanosecond after now, and below `RANGE_NS`, in which a line changes
abbrev pub next_of : ℕ → DeviceParts → Option ℕ
next_of now d = first_edge now (RANGE_NS - 1 - now) d

-- the first nanosecond after now, and below `RANGE_NS`, in which the timer of a processor ticks: it
-- fires and isn't masked; None where it doesn't
abbrev pub IsNextTick : BoardParts → ℕ → Option ℕ → Type 0
IsNextTick b cpu next =
    IsFirstAt (ticks_at (tscs_by_time b cpu) (now_of b) (timer_at cpu (apics_in b))) (now_of b)
    (RANGE_NS - 1) next

-- the first nanosecond after the board's time, and below `RANGE_NS`, in which a timer of the HPET
-- sends a message
abbrev pub next_message_of : BoardParts → Option ℕ
next_message_of b = next_message (now_of b) (RANGE_NS - 1 - now_of b) b.hpet
