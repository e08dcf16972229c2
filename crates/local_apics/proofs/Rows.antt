-- Small rows that pin the definitions.
use Rattle.std.proofs.Common.{◌≡◌, ◌+◌, ◌*◌, true, false, cond, ltb, [], ◌∷◌, map, refl}
use Rattle.tick_policy.specs.declared.parts.Policy.TheVariants.{Discard}
use Rattle.tick_policy.specs.declared.parts.TickParts.{TickParts}
use Rattle.lapic_timer.specs.declared.parts.ApicParts.{ApicParts}
use Rattle.lapic_timer.specs.declared.registers.ApicRegister.TheVariants.{Initial}
use Rattle.lapic_timer.specs.Parts.{apic_at_power_on, divisor}
use Rattle.lapic_timer.specs.Stretch.{passed, fires_next}
use Rattle.local_apics.specs.declared.parts.ApicsParts.{ApicsParts}
use Rattle.local_apics.specs.Parts.{is_idle, apics_at_power_on}
use Rattle.local_apics.specs.Places.{each, no_timer, no_line, timer_at, line_at}
use Rattle.local_apics.specs.Nanosecond.{fires_with, tick_with, at_nanosecond, run, looked_all, ticks_at}
use Rattle.local_apics.specs.Registers.{written_at, eoi_at}

-- a periodic timer of 3, divided by 1, that fires in the next nanosecond
abbrev periodic : ApicParts
periodic = record { lvt = 0x20030; divide = 0xb; initial = 3; current = 1; phase = 0; deadline = 0 }

-- the same masked
abbrev masked : ApicParts
masked = record periodic { lvt = 0x30030 }

-- an armed deadline
abbrev armed : ApicParts
armed = record { lvt = 0x40031; divide = 0xb; initial = 0; current = 0; phase = 0; deadline = 2001 }

-- a line that was raised by the only tick, and the line that lost one since
abbrev raised : TickParts
raised = record { policy = Discard; up = true; counts = record { due = 1; rises = 1; queue = 0; lost = 0 } }

abbrev lost : TickParts
lost = record { policy = Discard; up = true; counts = record { due = 2; rises = 1; queue = 0; lost = 1 } }

-- two processors, as a list of two
abbrev two : ApicParts → ApicParts → ApicsParts
two p q = record { timers = p ∷ q ∷ []; lines = no_line ∷ no_line ∷ [] }

places_are_counted_from_0 : each (λ k x. x + 10 * k) 0 (5 ∷ 5 ∷ []) ≡ (5 ∷ 15 ∷ [])
places_are_counted_from_0 = refl

-- a timer is idle where it neither counts nor is armed
idle : map is_idle (no_timer ∷ apic_at_power_on ∷ periodic ∷ armed ∷ []) ≡ true ∷ true ∷ false ∷ false ∷ []
idle = refl

-- a count of 1 fires, and a count of 2 doesn't
count_fires : map (fires_with 0) (periodic ∷ record periodic { current = 2 } ∷ []) ≡ true ∷ false ∷ []
unfolding fires_next divisor
count_fires = refl

-- a deadline fires where it is reached, and not before
deadline_fires : map (λ t. fires_with t armed) (2001 ∷ 2000 ∷ []) ≡ true ∷ false ∷ []
deadline_fires = refl

a_masked_fire_is_no_tick : tick_with 0 masked ≡ false
a_masked_fire_is_no_tick = refl

-- each timer ticks its own line, and each by its own TSC
nanoseconds : at_nanosecond (λ k. 0) (two periodic masked)
    ∷ at_nanosecond (λ k. cond (ltb k 1) 2000 2001) (two armed armed) ∷ []
    ≡ record { timers = record periodic { current = 3 } ∷ record masked { current = 3 } ∷ []; lines = raised ∷ no_line ∷ [] }
    ∷ record { timers = armed ∷ record armed { deadline = 0 } ∷ []; lines = no_line ∷ raised ∷ [] } ∷ []
unfolding at_nanosecond passed fires_next divisor
nanoseconds = refl

-- the deadline is reached three nanoseconds after 10, and two are too few
runs : map (λ n. run (λ k t. t + 1988) 10 n (two armed no_timer)) (2 ∷ 3 ∷ [])
    ≡ two armed no_timer ∷ record { timers = record armed { deadline = 0 } ∷ no_timer ∷ []; lines = raised ∷ no_line ∷ [] } ∷ []
unfolding at_nanosecond passed fires_next
runs = refl

a_second_tick_is_lost : line_at 0 (run (λ k t. 0) 0 4 (two periodic no_timer)) ≡ lost
unfolding at_nanosecond passed fires_next divisor
a_second_tick_is_lost = refl

-- a look spends a deadline and ticks; a masked one is spent without a tick; a look before it does nothing
looks : looked_all (λ k. 2001) (two armed periodic)
    ∷ looked_all (λ k. 2001) (two (record armed { lvt = 0x50031 }) no_timer)
    ∷ looked_all (λ k. 2000) (two armed periodic) ∷ []
    ≡ record { timers = record armed { deadline = 0 } ∷ periodic ∷ []; lines = raised ∷ no_line ∷ [] }
    ∷ two (record armed { lvt = 0x50031; deadline = 0 }) no_timer
    ∷ two armed periodic ∷ []
unfolding looked_all
looks = refl

-- the third nanosecond after 10 ticks; the second doesn't, and once the deadline is spent none does
ticks : map (ticks_at (λ t. t + 1988) 10 armed) (12 ∷ 13 ∷ 14 ∷ []) ≡ false ∷ true ∷ false ∷ []
ticks = refl

-- a write is of one processor, and leaves the other
written : map (λ k. timer_at k (written_at 1 Initial 7 (two periodic no_timer))) (0 ∷ 1 ∷ [])
    ≡ periodic ∷ record no_timer { initial = 7; current = 7 } ∷ []
written = refl

an_end_of_interrupt_lowers_the_line : eoi_at 1 (record { timers = []; lines = raised ∷ lost ∷ [] })
    ≡ record { timers = []; lines = raised ∷ record lost { up = false } ∷ [] }
an_end_of_interrupt_lowers_the_line = refl

-- of two processors there are 0 and 1 alone, and lines are down
at_power_on : map (λ k. timer_at k (apics_at_power_on 2)) (1 ∷ 2 ∷ []) ≡ apic_at_power_on ∷ no_timer ∷ []
at_power_on = refl

lines_are_down_at_power_on : line_at 0 (apics_at_power_on 2) ≡ no_line
lines_are_down_at_power_on = refl
