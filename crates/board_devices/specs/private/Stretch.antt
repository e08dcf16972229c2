-- The devices over a stretch of nanoseconds, each by itself; private contracts alone cite this.
use Rattle.std.specs.Prelude.{
  ℕ,
  zero,
  suc,
  Bool,
  true,
  false,
  ◌&&◌,
  ◌||◌,
  ◌==◌,
  not,
  nat_le,
  nat_lt,
  if◌then◌else◌,
  Option,
  Some,
  None,
  List,
  [],
  ◌∷◌,
  slice_index_or,
  slice_set,
}
use Rattle.std.specs.Option.{is_some}
use Rattle.pit_readback.specs.declared.TheConstants.{PIT_HZ}
use Rattle.rtc_registers.specs.declared.TheConstants.{RTC_HZ}
use Rattle.hpet_registers.specs.declared.hpet.TheConstants.{HPET_HZ}
use Rattle.clk_units.specs.Pulses.{pulses_from}
use Rattle.clk_units.specs.Events.{first_at}
use Rattle.irq_edges.specs.Rises.{levels_at}
use Rattle.pit_counter.specs.Table.{rises_in}
use Rattle.pit_readback.specs.Pit.{counter_of, pit_pulsed_times}
use Rattle.rtc_cycle.specs.Divider.{ticks_in}
use Rattle.rtc_registers.specs.declared.parts.RtcParts.{RtcParts}
use Rattle.rtc_registers.specs.Registers.{divider_of}
use Rattle.rtc_registers.specs.Access.{flagged}
use Rattle.rtc_registers.specs.Pulses.{rtc_pulsed_times}
use Rattle.hpet_comparator.specs.declared.stretch.Matches.{Matches}
use Rattle.clk_units.specs.Bits.{bit}
use Rattle.hpet_comparator.specs.Parts.{is_level, is_enabled, route_of}
use Rattle.hpet_registers.specs.declared.parts.HpetParts.{HpetParts}
use Rattle.hpet_registers.specs.Parts.{is_legacy, timer_at}
use Rattle.hpet_registers.specs.Outputs.{has_ticks, is_message, level_output}
use Rattle.hpet_registers.specs.Stretch.{hpet_pulsed_times, matches_of, timer_matches}
use Rattle.tick_policy.specs.declared.parts.TickParts.{TickParts}
use Rattle.tick_policy.specs.Line.{is_waiting}
use Rattle.tick_policy.specs.Stretch.{line_after, line_end, up_from}
use Rattle.board_devices.specs.declared.parts.DeviceParts.{DeviceParts}
use Rattle.board_devices.specs.declared.stretch.Ticks.{Ticks}
use Rattle.board_devices.specs.declared.stretch.Span.{Span}
use Rattle.board_devices.specs.Lines.{drives, is_replaced}
use Rattle.board_devices.specs.Places.{each, line_at, no_line}
use Rattle.board_devices.specs.Nanosecond.{counts_rtc, sees_point}

-- how many ticks are due at place k in the j nanoseconds after t
abbrev pub source : DeviceParts → ℕ → ℕ → ℕ → ℕ
source d t zero =
    λ j. if not (is_legacy d.hpet) then rises_in (counter_of d.pit 0) (pulses_from PIT_HZ t j)
    else 0
source d t (suc zero) =
    λ j. if counts_rtc d then ticks_in (divider_of d.rtc) (pulses_from RTC_HZ t j) else 0
source d t (suc (suc k)) =
    λ j. if has_ticks k d.hpet then matches_of k d.hpet (pulses_from HPET_HZ t j) else 0

-- the line at place k after n nanoseconds
abbrev pub line_run : DeviceParts → ℕ → ℕ → ℕ → TickParts → TickParts
line_run d t n k l = if sees_point d k then line_after (source d t k) d.slew_ns t n l else l

-- PF is set, where b holds
unfoldable pub flagged_where : Bool → RtcParts → RtcParts
flagged_where b r = if b then flagged r else r

-- the devices after n nanoseconds: each has had its own pulses, each line its own nanoseconds, and
-- PF follows its line
unfoldable pub parted : ℕ → ℕ → DeviceParts → DeviceParts
parted t n d = record d {
  pit = pit_pulsed_times (pulses_from PIT_HZ t n) d.pit;
  rtc = flagged_where (counts_rtc d
      && (line_run d t n 1 (line_at 1 d)).up) (rtc_pulsed_times (pulses_from RTC_HZ t n) d.rtc);
  hpet = hpet_pulsed_times (pulses_from HPET_HZ t n) d.hpet;
  ticks = each (line_run d t n) 0 d.ticks;
}

-- a line that a catch-up point leaves alone unless `seen`, and the ticks of its source, which are
-- counted where b holds
abbrev pub counted : Bool → Bool → ℕ → Option ℕ → Ticks
counted seen b count first =
    record { seen = seen; count = if b then count else 0; first = if b then first else None }

-- those of timer k, by its matches
abbrev pub timer_ticks : ℕ → ℕ → HpetParts → Matches → Ticks
timer_ticks from k h m = counted true (has_ticks k h) m.count (first_at HPET_HZ from m.first)

-- whether a stretch may change a line: a tick is due, or the catch-up point finds one that waits
abbrev pub moves : ℕ → ℕ → Ticks → TickParts → Bool
moves point to s l =
    s.seen && (nat_lt 0 s.count || (is_some s.first || (nat_le point to && is_waiting l)))

-- the places of the timers
abbrev pub eight : List ℕ
eight = 0 ∷ 1 ∷ 2 ∷ 3 ∷ 4 ∷ 5 ∷ 6 ∷ 7 ∷ []

-- those at a place, by the matches of the timers
abbrev pub ticks_at : ℕ → HpetParts → List Matches → Ticks → Ticks → ℕ → Ticks
ticks_at from h ms pit rtc zero = pit
ticks_at from h ms pit rtc (suc zero) = rtc
ticks_at from h ms pit rtc (suc (suc k)) = timer_ticks from k h (timer_matches ms k)

-- a line at the end of a stretch
abbrev pub end_of : ℕ → ℕ → Ticks → TickParts → TickParts
end_of point to s l = if s.seen then line_end point to s.first s.count l else l

-- from when on it is up
abbrev pub up_of : ℕ → ℕ → ℕ → Ticks → TickParts → Option ℕ
up_of from point to s l =
    if s.seen then up_from from point to s.first l else (if l.up then Some from else None)

-- the earlier of two times from which on something is up
unfoldable pub either_from : Option ℕ → Option ℕ → Option ℕ
either_from None b = b
either_from (Some a) None = Some a
either_from (Some a) (Some b) = if nat_le a b then Some a else Some b

-- from when on a flag is up that is shown where b holds
abbrev pub flag_from : Bool → Bool → ℕ → Option ℕ → Option ℕ
flag_from b flag from first = if b then (if flag then Some from else first) else None

-- from when on the output of timer k is up
abbrev pub output_from : ℕ → ℕ → HpetParts → Option ℕ → Option ℕ → Option ℕ
output_from from k h matched line =
    if is_level (timer_at k h)
    then flag_from (is_enabled (timer_at k h)) (bit k h.status) from matched
    else if is_message k h then None else line

-- the same by its matches, by what its status bit was, and by its tick line before
abbrev pub output_up : Span → ℕ → HpetParts → Bool → Matches → TickParts → Option ℕ
output_up span k h was_set m l =
    if is_level (timer_at k h)
    then flag_from (is_enabled (timer_at k h)) was_set span.from
    (first_at HPET_HZ span.from m.first)
    else if is_message k h then None
    else up_of span.from span.point span.to (timer_ticks span.from k h m) l

-- from when on one of the first n timers drives the line and is up
abbrev pub routed_from : ℕ → ℕ → HpetParts → List (Option ℕ) → Option ℕ
routed_from line zero h us = None
routed_from line (suc k) h us =
    either_from (routed_from line k h us) (if drives line k h then slice_index_or us k None
    else None)

-- the place, among the six lines, of the one to which a route leads
abbrev pub slot_of_route : ℕ → Option ℕ
slot_of_route route =
    if route == 20 then Some 2
    else if route == 21 then Some 3
    else if route == 22 then Some 4
    else if route == 23 then Some 5
    else None

-- .. and of the one that timer k drives
abbrev pub slot_of : ℕ → HpetParts → Option ℕ
slot_of k h =
    if is_replaced k h then Some k else slot_of_route (route_of (timer_at k h).config)

-- the line at a slot is up from a time on, too
abbrev pub with_rise : Option ℕ → Option ℕ → List (Option ℕ) → List (Option ℕ)
with_rise None slot times = times
with_rise (Some t) None times = times
with_rise (Some t) (Some i) times =
    slice_set times i (either_from (slice_index_or times i None) (Some t))

-- the lines that the first n timers drive, timer k being up from `us k` on
abbrev pub slots_from : ℕ → HpetParts → (ℕ → Option ℕ) → List (Option ℕ) → List (Option ℕ)
slots_from zero h us times = times
slots_from (suc k) h us times = with_rise (us k) (slot_of k h) (slots_from k h us times)

-- the places of all lines
abbrev pub ten : List ℕ
ten = 0 ∷ 1 ∷ 2 ∷ 3 ∷ 4 ∷ 5 ∷ 6 ∷ 7 ∷ 8 ∷ 9 ∷ []

-- outputs, by their parts
unfoldable pub output_by : ℕ → HpetParts → List TickParts → Bool
output_by k h ls =
    if is_level (timer_at k h) then level_output k h
    else not (is_message k h) && (slice_index_or ls (suc (suc k)) no_line).up

-- the place of the clock's line, where b holds
abbrev pub clock_place : Bool → ℕ → Bool
clock_place b zero = false
clock_place b (suc zero) = b
clock_place b (suc (suc k)) = false

-- the levels at t, as a run tells them: as they were, or by the times from which on the lines are
-- up
abbrev pub told_levels : ℕ → List Bool → Option (List (Option ℕ)) → List Bool
told_levels t before None = before
told_levels t before (Some us) = levels_at t us
