-- Rows on the timers of local APICs: power on, upgrade, conditions, the look at the deadlines, and accesses.
use Rattle.std.proofs.Common.{◌≡◌, ℕ, [], ◌∷◌, false, true, map, set, replicate, refl, ap, arith}
use Rattle.host_counter.specs.Time.{time_at}
use Rattle.tsc_scale.specs.Offset.{tsc_by}
use Rattle.tick_policy.specs.declared.parts.TickParts.{TickParts}
use Rattle.lapic_timer.specs.declared.parts.ApicParts.{ApicParts}
use Rattle.lapic_timer.specs.Parts.{apic_at_power_on, divisor}
use Rattle.lapic_timer.specs.Stretch.{passed, fires_next}
use Rattle.lapic_timer.specs.Deadline.{count_at}
use Rattle.local_apics.specs.declared.parts.ApicsParts.{ApicsParts}
use Rattle.local_apics.specs.Nanosecond.{at_nanosecond, looked_all, ticks_at}
use Rattle.local_apics.specs.Parts.{apics_at_power_on}
use Rattle.local_apics.specs.Places.{no_timer, no_line}
use Rattle.board_types.specs.declared.access.Access.TheVariants.{MsrRead, MsrWrite, Step, CountsOf, Eoi}
use Rattle.board_types.specs.declared.access.TickSource.TheVariants.{Apic}
use Rattle.board_types.specs.declared.reply.Value.TheVariants.{Word, Counts}
use Rattle.board_types.specs.declared.parts.BoardParts.{BoardParts}
use Rattle.board_types.specs.Setup.{setup_by_default}
use Rattle.board_devices.specs.Parts.{devices_upgraded}
use Rattle.board_devices.specs.Run.{run}
use Rattle.board_core.specs.Tsc.{no_processor, msr_read}
use Rattle.board_core.specs.Pages.{published, processors_after}
use Rattle.board_core.specs.Apics.{apics_of, apics_in, tscs_by_time, apics_acted, after_look}
use Rattle.board_core.specs.Access.{after_run, before_look, after_act, value_at}
use Rattle.board_core.specs.Reanchor.{reanchored}
use Rattle.board_core.specs.Conditions.{AreApics}
use Rattle.board_core.specs.PowerOn.{board_at_power_on}
use Rattle.board_core.specs.Upgrade.{gets_apics, upgraded_to}

-- a board of two processors in a format, at power on
abbrev started : ℕ → BoardParts
started format = board_at_power_on (record (setup_by_default format) { cpus = 2 })

-- the timers and lines at power on; a processor that isn't there has none, and before format 3 none has
timers : map (λ f. (started f).apic) (2 ∷ 3 ∷ [])
    ≡ replicate 64 no_timer ∷ (apic_at_power_on ∷ apic_at_power_on ∷ replicate 62 no_timer) ∷ []
timers = refl

lines : (started 3).apic_ticks ≡ replicate 64 no_line
lines = refl

numbers : map (λ f. apics_of f 64) (2 ∷ 5 ∷ []) ≡ 0 ∷ 64 ∷ []
numbers = refl

-- a timer in use, and its line
abbrev timer : ApicParts
timer = record { lvt = 0x20030; divide = 11; initial = 100; current = 40; phase = 0; deadline = 0 }

abbrev line : TickParts
line = record no_line { up = true; counts = record { due = 3; rises = 1; queue = 0; lost = 2 } }

abbrev in_use : BoardParts → BoardParts
in_use b = record b { accesses = 7; apic = set b.apic 1 timer; apic_ticks = set b.apic_ticks 1 line }

-- an upgrade to format 3 or beyond brings the timers as at power on, and a later one keeps them
upgraded-2-3 : upgraded_to 3 (started 2) ≡ started 3
unfolding upgraded_to devices_upgraded
upgraded-2-3 = refl

upgrades : map apics_in (upgraded_to 2 (started 1) ∷ upgraded_to 5 (started 1) ∷ upgraded_to 4 (in_use (started 3)) ∷ [])
    ≡ apics_at_power_on 0 ∷ apics_at_power_on 2 ∷ apics_in (in_use (started 3)) ∷ []
unfolding upgraded_to devices_upgraded
upgrades = refl

same_format : gets_apics 3 3 ≡ false
same_format = refl

-- conditions: no timer in format 2, none of a processor that isn't there, and no more ticks than were due
timer-in_format_2 : AreApics 2 2 9 (apics_in (in_use (started 2))) → ⊥
timer-in_format_2 valid = omega (arith, ap (λ (p : ApicParts). p.initial) ((valid.places.place 1 (omega arith)).no_timer refl))

timer-of_no_processor : AreApics 3 1 9 (apics_in (in_use (started 3))) → ⊥
timer-of_no_processor valid = omega (arith, ap (λ (p : ApicParts). p.initial) ((valid.places.place 1 (omega arith)).no_timer refl))

line-of_no_processor : AreApics 3 1 9 (record (apics_in (started 3)) { lines = set (started 3).apic_ticks 1 line }) → ⊥
line-of_no_processor valid = omega (arith, ap (λ (l : TickParts). l.counts.due) ((valid.places.place 1 (omega arith)).no_line refl))

more_ticks : AreApics 3 2 2 (apics_in (in_use (started 3))) → ⊥
more_ticks valid = omega (arith, valid.due 1 (omega arith))

-- a board of 3 GHz, host and guest, at count 3001, which is in nanosecond 1000: its deadlines are looked at by the TSC at
-- the first count of that nanosecond, 3000
abbrev deadline_of : ℕ → ApicParts
deadline_of tsc = record { lvt = 0x40031; divide = 0; initial = 0; current = 0; phase = 0; deadline = tsc }

abbrev spent : ApicParts
spent = deadline_of 0

abbrev raised : TickParts
raised = record no_line { up = true; counts = record { due = 1; rises = 1; queue = 0; lost = 0 } }

abbrev holding : ApicParts → ApicParts → BoardParts
holding p q = record (started 3) {
  anchor = record { khz = 3000000; start = 0; base_ns = 0 };
  guest_khz = 3000000;
  host = 3001;
  processors = no_processor ∷ no_processor ∷ [];
  apic = p ∷ q ∷ [];
  apic_ticks = no_line ∷ no_line ∷ [];
}

abbrev two : ApicParts → ApicParts → TickParts → TickParts → ApicsParts
two p q l m = record { timers = p ∷ q ∷ []; lines = l ∷ m ∷ [] }

-- the look of an access spends what is past: by time; a write of the TSC by the same access is seen, and moves no other processor;
-- so is a deadline that it writes in the past, and one in the future stays
looks : map apics_in (after_act (holding (deadline_of 3000) (deadline_of 3001)) 0 3001 Step
    ∷ after_act (holding (deadline_of 5000) (deadline_of 5000)) 0 3001 (MsrWrite 0x10 5001)
    ∷ after_act (holding (deadline_of 9000) (deadline_of 9000)) 1 3001 (MsrWrite 0x6e0 2999)
    ∷ [])
    ≡ two spent (deadline_of 3001) raised no_line
    ∷ two spent (deadline_of 5000) raised no_line
    ∷ two (deadline_of 9000) spent no_line raised
    ∷ []
unfolding after_act after_look before_look looked_all processors_after published count_at time_at tsc_by
looks = refl

-- a new anchor may pass a deadline: it reads as armed until the look of the next access
abbrev moved : BoardParts
moved = reanchored 3000000 9000 0 (holding (deadline_of 4000) no_timer)

armed-after-move : msr_read moved 0 9000 0x6e0 ≡ 4000
unfolding reanchored
armed-after-move = refl

read-before-look : value_at moved 0 9000 (MsrRead 0x6e0) ≡ Word 8 4000
unfolding value_at reanchored
read-before-look = refl

spent-by-next_access : apics_in (after_act moved 1 9000 Step) ≡ two spent no_timer raised no_line
unfolding after_act after_look before_look looked_all processors_after reanchored run count_at time_at tsc_by
spent-by-next_access = refl

-- the gap of a move runs by the old anchor: 1000 ns more bring the TSC to 6000
gap-by-old_anchor : apics_in (reanchored 100000 0 1000 (holding (deadline_of 6000) (deadline_of 6001))) ≡ two spent (deadline_of 6001) raised no_line
unfolding reanchored run at_nanosecond passed fires_next count_at time_at tsc_by
gap-by-old_anchor = refl

-- a periodic timer of 3, divided by 1, ticks each third nanosecond of the run of an access
abbrev periodic : ApicParts
periodic = record { lvt = 0x20030; divide = 11; initial = 3; current = 3; phase = 0; deadline = 0 }

ticks-of-run : apics_in (after_run (holding periodic no_timer) 3021)
    ≡ two (record periodic { current = 2 }) no_timer (record no_line { up = true; counts = record { due = 2; rises = 1; queue = 0; lost = 1 } }) no_line
unfolding after_run at_nanosecond passed fires_next divisor time_at
ticks-of-run = refl

-- the next one comes in the third nanosecond, and not in the second
next_tick : map (ticks_at (tscs_by_time (holding periodic no_timer) 0) 1000 periodic) (1002 ∷ 1003 ∷ []) ≡ false ∷ true ∷ []
unfolding passed fires_next divisor
next_tick = refl

-- the five MSRs act on the timer of the accessing processor, and those of 32 bits take the low half; no other MSR does;
-- the end of an interrupt takes down the line of that processor alone
abbrev idle : ApicsParts
idle = two no_timer no_timer no_line no_line

abbrev busy : ApicsParts
busy = two timer timer line line

acts : apics_acted 1 (MsrWrite 0x832 0x100030030) idle
    ∷ apics_acted 1 (MsrWrite 0x838 0x100000005) idle
    ∷ apics_acted 1 (MsrWrite 0x839 5) (two no_timer timer no_line no_line)
    ∷ apics_acted 0 (MsrWrite 0x83e 0x10000000b) idle
    ∷ apics_acted 0 (MsrWrite 0x10 7) busy
    ∷ apics_acted 1 Eoi busy
    ∷ []
    ≡ two no_timer (record no_timer { lvt = 0x30030 }) no_line no_line
    ∷ two no_timer (record no_timer { initial = 5; current = 5 }) no_line no_line
    ∷ two no_timer timer no_line no_line
    ∷ two (record no_timer { divide = 11 }) no_timer no_line no_line
    ∷ busy
    ∷ two timer timer line (record line { up = false })
    ∷ []
acts = refl

-- reads
reads : map (msr_read (holding no_timer timer) 1 3001) (0x832 ∷ 0x838 ∷ 0x839 ∷ 0x83e ∷ []) ≡ 0x20030 ∷ 100 ∷ 40 ∷ 11 ∷ []
reads = refl

counts-of-apic : value_at (record (holding timer timer) { apic_ticks = no_line ∷ line ∷ [] }) 0 3001 (CountsOf (Apic 1))
    ≡ Counts (record { due = 3; rises = 1; queue = 0; lost = 2 })
unfolding value_at
counts-of-apic = refl
