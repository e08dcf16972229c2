-- Rows on the definitions: each rule of a nanosecond, of the lines and of an access, at one state shortly before it.
use Rattle.std.proofs.Common.{◌≡◌, ℕ, ◌+◌, ◌*◌, true, false, map, replicate, refl, [], ◌∷◌, List}
use Rattle.std.specs.Prelude.{replicate}
use Rattle.clk_units.specs.Pulses.{falls_at, pulses_by}
use Rattle.pit_counter.specs.declared.parts.CounterParts.{CounterParts}
use Rattle.pit_counter.specs.Mode.{mode_of, is_bcd}
use Rattle.pit_counter.specs.Count.{modulus, number_in, meant_count, is_odd_square, loaded_count, lowered}
use Rattle.pit_counter.specs.Table.{effect_in, pulsed, rises_next}
use Rattle.pit_counter.specs.Programming.{programmed, counter_at_power_on}
use Rattle.pit_readback.specs.declared.parts.PitParts.{PitParts}
use Rattle.pit_readback.specs.Pit.{pit_pulsed}
use Rattle.pit_readback.specs.Ports.{port_written, written_43, commanded}
use Rattle.rtc_cycle.specs.Divider.{ticks_next, updates_next, pulsed as divider_pulsed}
use Rattle.rtc_registers.specs.declared.parts.RtcParts.{RtcParts}
use Rattle.rtc_registers.specs.Registers.{with_time, pf_of}
use Rattle.rtc_registers.specs.Parts.{rtc_at_power_on}
use Rattle.rtc_registers.specs.Access.{after_rtc_read, flagged}
use Rattle.rtc_registers.specs.Pulses.{alarms_next, moved, rtc_pulsed}
use Rattle.hpet_comparator.specs.declared.parts.TimerParts.{TimerParts}
use Rattle.hpet_comparator.specs.Stretch.{matches_at, pulsed as timer_pulsed}
use Rattle.hpet_registers.specs.declared.parts.HpetParts.{HpetParts}
use Rattle.hpet_registers.specs.Parts.{no_timer, hpet_at_power_on}
use Rattle.hpet_registers.specs.Stretch.{matches_next, hpet_pulsed}
use Rattle.tick_policy.specs.declared.parts.TickParts.{TickParts}
use Rattle.tick_policy.specs.declared.parts.Policy.{Policy}
use Rattle.tick_policy.specs.declared.parts.Policy.TheVariants.{Discard, Delay, Slew}
use Rattle.board_devices.specs.declared.parts.DeviceParts.{DeviceParts}
use Rattle.board_devices.specs.declared.act.Act.{Act}
use Rattle.board_devices.specs.declared.act.Act.TheVariants.{Ack, ClockRead, HpetWrite, IndexRead, PitWrite}
use Rattle.board_devices.specs.Places.{line_at, no_line}
use Rattle.board_devices.specs.Nanosecond.{pit_pulse, rtc_pulse, hpet_pulse, catch_up_point, at_nanosecond}
use Rattle.board_devices.specs.Lines.{levels}
use Rattle.board_devices.specs.Run.{onward, run}
use Rattle.board_devices.specs.Act.{acted, first_part, act_edges, value_of}
use Rattle.board_devices.specs.Parts.{devices_at_power_on, devices_upgraded}
use Rattle.board_devices.specs.Rises.{rises_with}
use Rattle.board_types.specs.declared.setup.Setup.{Setup}
use Rattle.irq_edges.specs.declared.edges.Edge.{Edge}
use Rattle.irq_edges.specs.Lines.{line_numbers}
use Rattle.hpet_comparator.specs.Config.{config_written}

-- a line that is down with q ticks that wait, and one that is up with them
abbrev line : Policy → ℕ → TickParts
line p q = record { policy = p; up = false; counts = record { due = q; rises = 0; queue = q; lost = 0 } }

abbrev shown : Policy → ℕ → TickParts
shown p q = record (line p q) { up = true }

abbrev low : TickParts
low = line Delay 0

abbrev high : TickParts
high = shown Delay 0

-- a line that had one tick, which is shown; the same under Slew, where a catch-up point has shown it; and one that had a second, which waits
abbrev ticked : TickParts
ticked = record { policy = Delay; up = true; counts = record { due = 1; rises = 1; queue = 0; lost = 0 } }

abbrev caught_up : TickParts
caught_up = record ticked { policy = Slew }

abbrev one_waits : TickParts
one_waits = record { policy = Slew; up = true; counts = record { due = 2; rises = 1; queue = 1; lost = 0 } }

-- counter 0 in mode 2 at 2 of 4
abbrev counter : CounterParts
counter = record (counter_at_power_on true) { bits = 52; null = false; full = true; live = true; cr = 4; ce = 2 }

abbrev pit : CounterParts → PitParts
pit c = record { counters = c ∷ counter_at_power_on true ∷ counter_at_power_on false ∷ []; speaker = false }

-- a periodic event at the next pulse, with this register B and these flags
abbrev rtc : ℕ → ℕ → RtcParts
rtc b c = record {
  index = 12;
  bytes = 0 ∷ 0 ∷ 0 ∷ 0 ∷ 0 ∷ 0 ∷ 1 ∷ 1 ∷ 1 ∷ 0 ∷ 38 ∷ b ∷ c ∷ 128 ∷ replicate 114 0;
  d = 31;
  cycle = false;
}

-- timer 0 of edge type at 3 on line 20, timer 1 of level type at 2 on line 21, both enabled
abbrev hpet : ℕ → ℕ → ℕ → HpetParts
hpet config status counter = record {
  config = config;
  status = status;
  counter = counter;
  timer = record { config = 10244; comparator = 3; period = 0 } ∷ record { config = 10758; comparator = 2; period = 0 }
      ∷ record { config = 10240; comparator = 0; period = 0 }
      ∷ no_timer ∷ no_timer ∷ no_timer ∷ no_timer ∷ no_timer ∷ [];
  timers = 3;
  messages = false;
  message_bit = replicate 8 false;
  message_word = replicate 8 0;
}

-- the lines of the 8254, of the MC146818 and of timer 0
abbrev lines : TickParts → TickParts → TickParts → List TickParts
lines p r h = p ∷ r ∷ h ∷ low ∷ low ∷ no_line ∷ no_line ∷ no_line ∷ no_line ∷ no_line ∷ []

abbrev start : DeviceParts
start = record { pit = pit counter; rtc = rtc 66 0; hpet = hpet 1 0 0; ticks = lines low (line Slew 1) low; slew_ns = 35 }

-- .. under legacy replacement, with PIE at 0, and with IRQF set
abbrev legacy : DeviceParts
legacy = record start { hpet = hpet 3 0 9 }

abbrev no_pie : DeviceParts
no_pie = record start { rtc = rtc 2 0 }

abbrev irqf : List TickParts → DeviceParts
irqf ls = record start { rtc = rtc 66 64; ticks = ls }

-- .. with no catch-up point near, and there with OUT 0 about to go up
abbrev far : DeviceParts
far = record start { slew_ns = 1000000000 }

abbrev out_next : DeviceParts
out_next = record start { pit = pit (record counter { out = false; ce = 1 }) }

-- a line after the nanosecond t
abbrev line_after : ℕ → ℕ → DeviceParts → TickParts
line_after t k d = line_at k (at_nanosecond t d)

-- a line after an acknowledgement of line n
abbrev line_acked : ℕ → ℕ → DeviceParts → TickParts
line_acked n k d = line_at k (acted (Ack n) d)

-- the edges of an access at 5
abbrev edges_of : Act → DeviceParts → List Edge
edges_of a d = act_edges 5 a d

abbrev up : ℕ → Edge
up line = record { at = 5; line = line; up = true }

abbrev down : ℕ → Edge
down line = record { at = 5; line = line; up = false }

-- a timer of edge type with its interrupt enabled, and one of level type, on an input
abbrev edge_timer : ℕ → TimerParts
edge_timer route = record { config = 512 * route + 4; comparator = 0; period = 0 }

abbrev level_timer : ℕ → TimerParts
level_timer route = record { config = 512 * route + 6; comparator = 0; period = 0 }

-- an HPET with this configuration and these first timers and last timer
abbrev timers : ℕ → TimerParts → TimerParts → TimerParts → TimerParts → HpetParts
timers config t0 t1 t2 t7 = record {
  config = config;
  status = 0;
  counter = 9;
  timer = t0 ∷ t1 ∷ t2 ∷ no_timer ∷ no_timer ∷ no_timer ∷ no_timer ∷ t7 ∷ [];
  timers = 8;
  messages = false;
  message_bit = replicate 8 false;
  message_word = replicate 8 0;
}

-- the lines of timers 0, 1, 2 and 7, of which the other timers are not there
abbrev timer_lines : TickParts → TickParts → TickParts → TickParts → List TickParts
timer_lines t0 t1 t2 t7 = low ∷ low ∷ t0 ∷ t1 ∷ t2 ∷ no_line ∷ no_line ∷ no_line ∷ no_line ∷ t7 ∷ []

-- timers 0 and 1 of edge type on lines 20 and 21, their lines up, with this configuration
abbrev two_timers : ℕ → DeviceParts
two_timers config = record start { hpet = timers config (edge_timer 20) (edge_timer 21) no_timer no_timer; ticks = timer_lines high high no_line no_line }

-- timer 2 on line 20 under legacy replacement, its line up
abbrev timer_2 : DeviceParts
timer_2 = record start {
  hpet = record (timers 3 no_timer no_timer (edge_timer 20) no_timer) { timers = 3 };
  ticks = low ∷ low ∷ low ∷ low ∷ high ∷ no_line ∷ no_line ∷ no_line ∷ no_line ∷ no_line ∷ [];
}

-- timer 0 with bit 14, of this configuration, at comparator 12 of a counter at 9; timer 1 without it; both tick lines are up
abbrev sender : ℕ → DeviceParts
sender config = record start {
  hpet = record (timers 1 (record { config = config; comparator = 12; period = 0 }) (edge_timer 21) no_timer no_timer) {
    messages = true;
    message_bit = true ∷ false ∷ false ∷ false ∷ false ∷ false ∷ false ∷ false ∷ [];
    message_word = 0xfee0000000000041 ∷ 0 ∷ 0 ∷ 0 ∷ 0 ∷ 0 ∷ 0 ∷ 0 ∷ [];
  };
  ticks = timer_lines (shown Delay 1) high no_line no_line;
}

-- a run: the matches of both timers, and between them and the next the catch-up point, at which the tick that waits comes up
hpet_run : (run 0 40 start).edges ≡ record { at = 20; line = 21; up = true } ∷ record { at = 30; line = 20; up = true }
    ∷ record { at = 35; line = 8; up = true } ∷ []
unfolding run onward at_nanosecond pit_pulse rtc_pulse hpet_pulse catch_up_point levels falls_at pulses_by flagged matches_next hpet_pulsed matches_at
    timer_pulsed
hpet_run = refl

-- the clock's periodic event at 30518, and the second pulse of the 8254 at 1677, with which OUT 0 goes up
slow_runs : (run 30515 5 far).edges ∷ (run 1676 2 (record far { pit = out_next.pit })).edges ∷ []
    ≡ (record { at = 30518; line = 8; up = true } ∷ []) ∷ (record { at = 1677; line = 0; up = true } ∷ []) ∷ []
unfolding run onward at_nanosecond pit_pulse rtc_pulse hpet_pulse catch_up_point levels falls_at pulses_by pulsed rises_next pit_pulsed rtc_pulsed
    ticks_next updates_next divider_pulsed alarms_next moved with_time flagged matches_next hpet_pulsed matches_at timer_pulsed effect_in mode_of is_bcd
    modulus number_in meant_count is_odd_square loaded_count lowered programmed
slow_runs = refl

-- a match of a timer with messages is no edge, and no tick
match_is_a_message : (run 0 30 (sender 0x2804)).edges ≡ []
unfolding run onward at_nanosecond pit_pulse rtc_pulse hpet_pulse catch_up_point levels falls_at pulses_by flagged matches_next hpet_pulsed matches_at
    timer_pulsed
match_is_a_message = refl

match_is_no_tick : line_at 2 (run 0 30 (sender 0x2804)).state ≡ shown Delay 1
unfolding run onward at_nanosecond pit_pulse rtc_pulse hpet_pulse catch_up_point levels falls_at pulses_by flagged matches_next hpet_pulsed matches_at
    timer_pulsed
match_is_no_tick = refl

-- a rise of OUT 0 under legacy replacement is no tick
legacy_pit_tick : line_after 1677 0 (record out_next { hpet = legacy.hpet }) ≡ low
unfolding at_nanosecond pit_pulse rtc_pulse hpet_pulse catch_up_point falls_at pulses_by pulsed rises_next pit_pulsed flagged effect_in mode_of is_bcd
    modulus number_in meant_count is_odd_square loaded_count lowered programmed
legacy_pit_tick = refl

-- a match of a level timer sets its status bit
level_match : (at_nanosecond 20 (record start { hpet = hpet 1 0 1 })).hpet.status ≡ 2
unfolding at_nanosecond pit_pulse rtc_pulse hpet_pulse catch_up_point falls_at pulses_by flagged matches_next hpet_pulsed matches_at timer_pulsed
level_match = refl

-- .. and makes no tick due; and a tick in the nanosecond of a catch-up point comes first: the one that waits goes on waiting
match_ticks : line_after 20 3 (record start { hpet = hpet 1 0 1 })
    ∷ line_after 70 2 (record start { hpet = hpet 1 0 2; ticks = lines low (line Slew 0) (line Slew 1) }) ∷ []
    ≡ low ∷ one_waits ∷ []
unfolding at_nanosecond pit_pulse rtc_pulse hpet_pulse catch_up_point falls_at pulses_by flagged matches_next hpet_pulsed matches_at timer_pulsed
match_ticks = refl

-- a periodic event while PIE is 0 or under legacy replacement sets PF, and is no tick
uncounted_events : map (λ d. pf_of (at_nanosecond 30518 d).rtc) (no_pie ∷ legacy ∷ []) ≡ true ∷ true ∷ []
unfolding at_nanosecond pit_pulse rtc_pulse hpet_pulse catch_up_point falls_at pulses_by rtc_pulsed ticks_next updates_next divider_pulsed alarms_next moved
    with_time flagged
uncounted_events = refl

no_ticks_of_them : map (line_after 30518 1) (no_pie ∷ legacy ∷ []) ≡ line Slew 1 ∷ line Slew 1 ∷ []
unfolding at_nanosecond pit_pulse rtc_pulse hpet_pulse catch_up_point falls_at pulses_by rtc_pulsed ticks_next updates_next divider_pulsed alarms_next moved
    with_time flagged
no_ticks_of_them = refl

-- a catch-up point that brings the clock's line up sets PF; there is none for it while its ticks aren't counted
catch_up_sets_pf : pf_of (at_nanosecond 35 start).rtc ≡ true
unfolding at_nanosecond pit_pulse rtc_pulse hpet_pulse catch_up_point falls_at pulses_by flagged
catch_up_sets_pf = refl

clock_not_caught_up : map (line_after 35 1) (no_pie ∷ legacy ∷ []) ≡ line Slew 1 ∷ line Slew 1 ∷ []
unfolding at_nanosecond pit_pulse rtc_pulse hpet_pulse catch_up_point falls_at pulses_by flagged
clock_not_caught_up = refl

-- .. it shows a waiting tick of an HPET timer, that of the 8254 under legacy replacement too, and that of a timer with messages, whose line stays low
caught_up_lines : line_after 35 2 (record start { ticks = lines low (line Slew 0) (line Slew 1) })
    ∷ line_after 35 0 (record legacy { ticks = lines (line Slew 1) (line Slew 0) low })
    ∷ line_after 35 2 (record (sender 0x2804) { ticks = lines low (line Slew 0) (line Slew 1) }) ∷ []
    ≡ caught_up ∷ caught_up ∷ caught_up ∷ []
unfolding at_nanosecond pit_pulse rtc_pulse hpet_pulse catch_up_point falls_at pulses_by flagged matches_next hpet_pulsed matches_at timer_pulsed
caught_up_lines = refl

-- under LEG_RT lines 0 and 8 are the outputs of timers 0 and 1, which drive no other line; timer 2 drives its own input then too; and timer 7 drives its own
levels_of_lines : map levels (record (irqf (lines high high low)) { hpet = hpet 1 2 9 }
    ∷ record (irqf (lines high low low)) { hpet = hpet 3 2 9 }
    ∷ timer_2
    ∷ record start { hpet = timers 1 no_timer no_timer no_timer (edge_timer 23); ticks = timer_lines no_line no_line no_line high } ∷ [])
    ≡ (true ∷ true ∷ false ∷ true ∷ false ∷ false ∷ [])
    ∷ (false ∷ true ∷ false ∷ false ∷ false ∷ false ∷ [])
    ∷ (false ∷ false ∷ true ∷ false ∷ false ∷ false ∷ [])
    ∷ (false ∷ false ∷ false ∷ false ∷ false ∷ true ∷ []) ∷ []
unfolding levels
levels_of_lines = refl

-- of a timer with messages the line is low, though its tick line is up; but not of one with its interrupt off, nor of one of level type.
-- The output of a level timer is its status bit: a tick line that is still up since it was of edge type shows nothing
hidden_tick_lines : map levels (sender 0x2804
    ∷ sender 0x2800
    ∷ record (sender 0x2806) { hpet = record (sender 0x2806).hpet { status = 1 } }
    ∷ record start { hpet = timers 1 (level_timer 20) no_timer no_timer no_timer; ticks = timer_lines high no_line no_line no_line } ∷ [])
    ≡ (false ∷ false ∷ false ∷ true ∷ false ∷ false ∷ [])
    ∷ (false ∷ false ∷ true ∷ true ∷ false ∷ false ∷ [])
    ∷ (false ∷ false ∷ true ∷ true ∷ false ∷ false ∷ [])
    ∷ (false ∷ false ∷ false ∷ false ∷ false ∷ false ∷ []) ∷ []
unfolding levels
hidden_tick_lines = refl

-- an acknowledgement: under Delay the line falls and a tick that waits lifts it again; under Slew and Discard it falls
ack_edges : map (λ h. edges_of (Ack 20) (record start { ticks = lines low (line Slew 0) h })) (shown Delay 1 ∷ shown Slew 1 ∷ shown Discard 0 ∷ [])
    ≡ (down 20 ∷ up 20 ∷ []) ∷ (down 20 ∷ []) ∷ (down 20 ∷ []) ∷ []
unfolding levels acted first_part
ack_edges = refl

-- .. a level timer isn't acknowledged
level_ack_edges : edges_of (Ack 21) (record start { hpet = hpet 1 2 9 }) ≡ []
unfolding levels acted first_part
level_ack_edges = refl

-- the tick goes on waiting under Slew; neither the 8254 under legacy replacement is acknowledged, nor the clock, nor a timer that
-- isn't there, nor one with messages; timer 2 is on its own input under legacy replacement too
acked_lines : line_acked 20 2 (record start { ticks = lines low (line Slew 0) (shown Slew 1) })
    ∷ line_acked 0 0 (record legacy { ticks = lines (shown Delay 1) (line Slew 0) low })
    ∷ line_acked 8 1 (irqf (lines low (shown Delay 1) low))
    ∷ line_acked 0 5 (record start { ticks = low ∷ low ∷ low ∷ low ∷ low ∷ high ∷ [] })
    ∷ line_acked 20 2 (sender 0x2804)
    ∷ line_acked 20 4 timer_2 ∷ []
    ≡ line Slew 1 ∷ shown Delay 1 ∷ shown Delay 1 ∷ high ∷ shown Delay 1 ∷ low ∷ []
unfolding acted
acked_lines = refl

-- under legacy replacement acknowledgements of lines 0 and 8 reach timers 0 and 1, and those of their inputs don't; without it, it is
-- the other way round; and a timer on another input stays up
acks_of_timers : map (λ d. line_acked 0 2 d ∷ line_acked 8 3 d ∷ line_acked 21 3 d ∷ line_acked 21 2 d ∷ []) (two_timers 3 ∷ two_timers 1 ∷ [])
    ≡ (low ∷ low ∷ high ∷ high ∷ []) ∷ (high ∷ high ∷ low ∷ high ∷ []) ∷ []
unfolding acted
acks_of_timers = refl

-- a read of register C acknowledges the clock: under Delay the line falls and rises again, and PF is set again
read_c : edges_of ClockRead (irqf (lines low (shown Delay 1) low)) ≡ down 8 ∷ up 8 ∷ []
unfolding levels acted first_part after_rtc_read flagged
read_c = refl

read_c_flag : pf_of (acted ClockRead (irqf (lines low (shown Delay 1) low))).rtc ≡ true
unfolding acted after_rtc_read flagged
read_c_flag = refl

-- .. and leaves the lines of the 8254 and of the HPET
read_c_lines : map (λ k. line_at k (acted ClockRead (irqf (lines high high high)))) (0 ∷ 1 ∷ 2 ∷ []) ≡ high ∷ low ∷ high ∷ []
unfolding acted after_rtc_read flagged
read_c_lines = refl

-- port 70h reads FFh, whatever index was written
index_reads_ff : value_of 5 IndexRead start ≡ 0xff
unfolding value_of
index_reads_ff = refl

-- a write that makes OUT 0 rise is a tick of the 8254, but not under legacy replacement
write_ticks : map (λ h. line_at 0 (acted (PitWrite 0x43 0x34) (record start { pit = pit (record counter { out = false }); hpet = h })))
    (start.hpet ∷ legacy.hpet ∷ []) ≡ ticked ∷ low ∷ []
unfolding acted port_written written_43 commanded programmed mode_of is_bcd
write_ticks = refl

-- at power on no line is up
power_on_levels : (s : Setup) → levels (devices_at_power_on (record s { format = 1 })) ≡ false ∷ false ∷ false ∷ false ∷ false ∷ false ∷ []
unfolding levels rtc_at_power_on with_time
power_on_levels s = refl

-- three timers in format 1, eight from format 2 on, and message registers from format 5 on
hpets_of_formats : (s : Setup) → map (λ f. (devices_at_power_on (record s { format = f })).hpet) (1 ∷ 2 ∷ 4 ∷ 5 ∷ [])
    ≡ hpet_at_power_on 3 false ∷ hpet_at_power_on 8 false ∷ hpet_at_power_on 8 false ∷ hpet_at_power_on 8 true ∷ []
hpets_of_formats s = refl

-- five timers more: their lines have the policy of the others
upgraded_line : line_at 5 (devices_upgraded false start) ≡ low
unfolding devices_upgraded
upgraded_line = refl

-- message registers come where they are asked for, and stay where they are
upgraded_messages : map (λ (d : DeviceParts). d.hpet.messages) (devices_upgraded false start ∷ devices_upgraded true start
    ∷ devices_upgraded false (record start { hpet = record (hpet 1 0 0) { timers = 8; messages = true } }) ∷ []) ≡ false ∷ true ∷ true ∷ []
unfolding devices_upgraded
upgraded_messages = refl

-- writes to a timer with messages: its line rises as bit 14 is cleared, and falls as it is set again; legacy replacement takes timer 0 to line 0
sender_edges : edges_of (HpetWrite 0x100 4 0x2804) (sender 0x2804)
    ∷ edges_of (HpetWrite 0x100 4 0x6804) (acted (HpetWrite 0x100 4 0x2804) (sender 0x2804))
    ∷ edges_of (HpetWrite 0x10 4 3) (sender 0x2804) ∷ []
    ≡ (up 20 ∷ []) ∷ (down 20 ∷ []) ∷ (up 0 ∷ up 8 ∷ down 21 ∷ []) ∷ []
unfolding levels acted first_part config_written
sender_edges = refl

-- .. the first of them is one rise
cleared_is_one_rise : rises_with (edges_of (HpetWrite 0x100 4 0x2804) (sender 0x2804)) line_numbers (replicate 6 0) ≡ 0 ∷ 0 ∷ 1 ∷ 0 ∷ 0 ∷ 0 ∷ []
unfolding levels acted first_part config_written
cleared_is_one_rise = refl
