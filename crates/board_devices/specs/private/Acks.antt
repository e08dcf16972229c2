-- An acknowledgement of a line, by what its tick lines show; private contracts alone cite this.
use Rattle.std.specs.Prelude.{
  ℕ,
  zero,
  suc,
  Bool,
  false,
  ◌&&◌,
  ◌||◌,
  ◌==◌,
  not,
  nat_lt,
  if◌then◌else◌,
  List,
  slice_index_or,
}
use Rattle.hpet_comparator.specs.Parts.{is_level, route_of}
use Rattle.hpet_registers.specs.declared.parts.HpetParts.{HpetParts}
use Rattle.hpet_registers.specs.Parts.{timer_at}
use Rattle.hpet_registers.specs.Outputs.{level_output, is_message}
use Rattle.tick_policy.specs.declared.parts.TickParts.{TickParts}
use Rattle.board_devices.specs.declared.acks.Levels.{Levels}
use Rattle.board_devices.specs.Places.{no_line}
use Rattle.board_devices.specs.Act.{drives_now, shows_ticks, acked_where, down_where}

-- a line to which timers are routed
abbrev pub is_io_line : ℕ → Bool
is_io_line line = line == 20 || (line == 21 || (line == 22 || line == 23))

-- whether the level of a line shows timer k, by whether there is legacy replacement
abbrev pub shows : Bool → ℕ → ℕ → HpetParts → Bool
shows legacy line k h =
    if legacy && nat_lt k 2 then line == (if k == 0 then 0 else 8)
    else is_io_line line && (route_of (timer_at k h).config == line)

-- whether an acknowledgement of the line reaches the tick line of timer k
abbrev pub timer_acks : ℕ → HpetParts → ℕ → Bool
timer_acks line h k =
    nat_lt k h.timers && (shows_ticks k h && drives_now line k h)

-- the output of timer k, by its tick line
abbrev pub output_with : ℕ → HpetParts → TickParts → Bool
output_with k h l =
    if is_level (timer_at k h) then level_output k h else not (is_message k h) && l.up

-- what timer k shows of the line: before, between the parts of an acknowledgement, and after
abbrev pub timer_levels : Bool → ℕ → ℕ → HpetParts → TickParts → Levels
timer_levels legacy line k h l = record {
  before = shows legacy line k h && output_with k h l;
  between = shows legacy line k h && output_with k h (down_where (timer_acks line h k) l);
  after = shows legacy line k h && output_with k h (acked_where (timer_acks line h k) l);
}

-- whether one of the first n timers that a line shows is up
abbrev pub shown_by : Bool → ℕ → ℕ → HpetParts → List TickParts → Bool
shown_by legacy line zero h ls = false
shown_by legacy line (suc k) h ls =
    shown_by legacy line k h ls
    || (shows legacy line k h && output_with k h (slice_index_or ls (suc (suc k)) no_line))

-- the level of a line, but for that of the clock
abbrev pub level_by : Bool → ℕ → HpetParts → List TickParts → Bool
level_by legacy line h ls =
    if (line == 0) && not legacy then (slice_index_or ls 0 no_line).up
    else shown_by legacy line 8 h ls
