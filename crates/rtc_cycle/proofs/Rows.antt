-- Small rows that pin the definitions.
use Rattle.std.proofs.Common.{◌≡◌, ℕ, Bool, true, false, map, [], ◌∷◌, refl, inl, inr, arith, lit<, lit≤}
use Rattle.rtc_cycle.specs.declared.parts.DividerParts.{DividerParts}
use Rattle.rtc_cycle.specs.Divider.{pulsed, pulsed_times, ticks_next, updates_next, ticks_in, updates_in}
use Rattle.rtc_cycle.specs.Divider.{uip_of, with_dv, with_set, period, frequency}
use Rattle.rtc_cycle.specs.Parts.{IsDivider, divider_at_power_on}
use Rattle.std.proofs.lemmas.Bool.{true≢false, false≢true}

-- a running divider
abbrev running : ℕ → Bool → DividerParts
running d cycle = record { d = d; cycle = cycle; dv = 2; rs = 6; set = false }

-- a cycle begins with the second, but not while SET is 1, and ends at 65
pulses : map pulsed (running 32767 false ∷ record (running 32767 false) { set = true } ∷ running 64 true ∷ [])
    ≡ running 0 true ∷ record (running 0 false) { set = true } ∷ running 65 false ∷ []
unfolding pulsed
pulses = refl

-- an update at the end of a cycle, not before, and none without a cycle
updates : map (updates_in (running 32767 false)) (65 ∷ 66 ∷ []) ≡ 0 ∷ 1 ∷ []
unfolding pulsed updates_next
updates = refl

no_update_without_a_cycle : updates_next (running 64 false) ≡ false
unfolding updates_next
no_update_without_a_cycle = refl

-- another DV holds the divider, the same one changes nothing, and SET abandons the cycle
writes : pulsed_times 3 (with_dv 6 (running 10 true)) ∷ with_dv 2 (running 10 true) ∷ with_set true (running 10 true) ∷ []
    ≡ record (running 16384 false) { dv = 6 } ∷ running 10 true ∷ record (running 10 false) { set = true } ∷ []
unfolding pulsed
writes = refl

-- UIP from 8 pulses before the cycle on, but not while SET is 1
uip : map uip_of (running 32759 false ∷ running 32760 false ∷ record (running 32760 false) { set = true } ∷ []) ≡ false ∷ true ∷ false ∷ []
uip = refl

-- ticks at rates 3 and 1; none at rate 0 or while held
ticks : ticks_in (record (running 0 false) { rs = 3 }) 9
    ∷ ticks_in (record (running 100 false) { rs = 1 }) 28
    ∷ ticks_in (record (running 0 false) { rs = 0 }) 9
    ∷ ticks_in (record (running 16384 false) { dv = 7; rs = 3 }) 9 ∷ []
    ≡ 2 ∷ 1 ∷ 0 ∷ 0 ∷ []
unfolding ticks_next pulsed
ticks = refl

periods : map period (2 ∷ 15 ∷ []) ≡ 256 ∷ 16384 ∷ []
periods = refl

frequency_of_rate_6 : frequency 6 ≡ 1024
frequency_of_rate_6 = refl

power_on_in_mid_second : divider_at_power_on ≡ running 16384 false
power_on_in_mid_second = refl

-- the last pulse of a cycle is a divider's
in_cycle_at_64 : IsDivider (running 64 true)
in_cycle_at_64 = record { below = lit< tt; held = inl refl; in_cycle = λ _. (refl, refl, lit≤ tt); dv = lit≤ tt; rs = lit≤ tt }

held_with_dv_7 : IsDivider (record (running 16384 false) { dv = 7; rs = 15; set = true })
held_with_dv_7 = record { below = lit< tt; held = inr refl; in_cycle = λ h. absurd (false≢true h); dv = lit≤ tt; rs = lit≤ tt }

-- what each condition on the fields refuses
no_place_32768 : IsDivider (running 32768 false) → ⊥
no_place_32768 h = omega (arith, h.below)

held_at_16384_alone : IsDivider (record (running 16385 false) { dv = 6 }) → ⊥
held_at_16384_alone h = elim h.held [ inl runs ↦ omega (arith, runs) | inr place ↦ omega (arith, place) ]

no_cycle_while_held : IsDivider (record (running 16384 true) { dv = 6 }) → ⊥
no_cycle_while_held h = omega (arith, (h.in_cycle refl).0)

no_cycle_with_set : IsDivider (record (running 10 true) { set = true }) → ⊥
no_cycle_with_set h = true≢false (h.in_cycle refl).1

no_cycle_at_65 : IsDivider (running 65 true) → ⊥
no_cycle_at_65 h = omega (arith, (h.in_cycle refl).2)

dv_of_three_bits : IsDivider (record (running 16384 false) { dv = 8 }) → ⊥
dv_of_three_bits h = omega (arith, h.dv)

rs_of_four_bits : IsDivider (record (running 0 false) { rs = 16 }) → ⊥
rs_of_four_bits h = omega (arith, h.rs)
