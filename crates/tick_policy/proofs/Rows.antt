-- Tables that pin the definitions: each rule of a tick, an acknowledgement and a catch-up point, under each policy.
use Rattle.std.proofs.Common.{◌≡◌, ℕ, Bool, true, false, ltb, cond, map, [], ◌∷◌, Some, None, refl, arith}
use Rattle.tick_policy.specs.declared.parts.Policy.{Policy}
use Rattle.tick_policy.specs.declared.parts.Policy.TheVariants.{Discard, Delay, Slew}
use Rattle.tick_policy.specs.declared.line.Acked.TheVariants.{NotUp, Down, DownUp}
use Rattle.tick_policy.specs.declared.parts.TickParts.{TickParts}
use Rattle.tick_policy.specs.declared.parts.TickField.TheVariants.{Queue, Lost}
use Rattle.tick_policy.specs.declared.history.Event.TheVariants.{Tick, Acknowledgement, CatchUpPoint}
use Rattle.tick_policy.specs.Parts.{policy_byte, policy_of, IsTickLine, first_fault}
use Rattle.tick_policy.specs.Stored.{IsStored}
use Rattle.tick_policy.specs.Line.{line_at_power_on, ticked, ticked_times, acked, acked_down, ack_answer, caught_up, set_up_to}
use Rattle.tick_policy.specs.Stretch.{line_after, line_after_points, line_end, up_from, is_caught, IsFirstPoint}
use Rattle.tick_policy.specs.History.{after_events, ticks_of}

-- a line by its policy, whether it is up, and its counts
abbrev line : Policy → Bool → ℕ → ℕ → ℕ → ℕ → TickParts
line policy up due rises queue lost = record { policy = policy; up = up; counts = record { due = due; rises = rises; queue = queue; lost = lost } }

-- a tick raises a line that is down, also while others wait; while it is up, the tick is lost or waits, by the policy
ticks : map ticked
    (line_at_power_on Delay
    ∷ line Discard true 1 1 0 0
    ∷ line Delay true 1 1 0 0
    ∷ line Slew true 1 1 0 0
    ∷ line Slew false 5 2 3 0
    ∷ [])
    ≡ line Delay true 1 1 0 0
    ∷ line Discard true 2 1 0 1
    ∷ line Delay true 2 1 1 0
    ∷ line Slew true 2 1 1 0
    ∷ line Slew true 6 3 3 0
    ∷ []
ticks = refl

eleven_ticks : ticked_times 11 (line_at_power_on Discard) ≡ line Discard true 11 1 0 10
unfolding ticked_times
eleven_ticks = refl

-- an acknowledgement of a line that is down does nothing; under Delay it shows a tick that waits
acknowledgements : map acked (line Delay false 3 1 2 0 ∷ line Delay true 3 1 2 0 ∷ line Delay true 3 3 0 0 ∷ line Slew true 3 1 2 0 ∷ [])
    ≡ line Delay false 3 1 2 0 ∷ line Delay true 3 2 1 0 ∷ line Delay false 3 3 0 0 ∷ line Slew false 3 1 2 0 ∷ []
acknowledgements = refl

-- .. and what it answers
answers : map ack_answer (line Delay false 3 1 2 0 ∷ line Delay true 3 1 2 0 ∷ line Slew true 3 1 2 0 ∷ []) ≡ NotUp ∷ DownUp ∷ Down ∷ []
answers = refl

-- the first part of an acknowledgement shows no tick that waits
first_part_shows_none : acked_down (line Delay true 3 1 2 0) ≡ line Delay false 3 1 2 0
first_part_shows_none = refl

level_alone_is_put : set_up_to true (line Delay false 3 1 2 0) ≡ line Delay true 3 1 2 0
level_alone_is_put = refl

-- a catch-up point shows a tick that waits under Slew, on a line that is down
catch_ups : map caught_up (line Slew false 3 1 2 0 ∷ line Slew true 3 1 2 0 ∷ line Slew false 3 3 0 0 ∷ line Delay false 3 1 2 0 ∷ [])
    ≡ line Slew true 3 2 1 0 ∷ line Slew true 3 1 2 0 ∷ line Slew false 3 3 0 0 ∷ line Delay false 3 1 2 0 ∷ []
catch_ups = refl

-- a source whose first tick comes with nanosecond 10 of the stretch
abbrev at_ten : ℕ → ℕ
at_ten j = cond (ltb j 10) 0 1

-- the line at 112, with a catch-up point each 8 or each 11 nanoseconds. The point 104 comes before the tick: it shows a tick that
-- waits, and the tick waits. The tick and the point 110 come in one nanosecond: the tick comes first, and the point finds the line up
points : map (λ slew. line_after at_ten slew 100 12 (line Slew false 3 1 2 0)) (8 ∷ 11 ∷ [])
    ≡ line Slew true 4 2 2 0 ∷ line Slew true 4 2 2 0 ∷ []
unfolding line_after
points = refl

-- .. and where the point comes before a tick of the same nanosecond
points_first : map (λ slew. line_after_points at_ten slew 100 12 (line Slew false 3 1 2 0)) (8 ∷ 11 ∷ [])
    ≡ line Slew true 4 2 2 0 ∷ line Slew true 4 2 2 0 ∷ []
unfolding line_after_points
points_first = refl

tick_with_the_point_comes_first : is_caught 110 112 (Some 110) ≡ false
tick_with_the_point_comes_first = refl

-- since when a line is up: by the tick alone, by the point alone, not by a point after the end, not with no tick that waits, and from before
levels : up_from 100 110 112 (Some 110) (line Slew false 3 1 2 0)
    ∷ up_from 100 104 112 (Some 110) (line Slew false 3 1 2 0)
    ∷ up_from 100 120 112 None (line Slew false 3 1 2 0)
    ∷ up_from 100 104 112 None (line Slew false 3 3 0 0)
    ∷ up_from 100 104 112 (Some 110) (line Slew true 3 1 2 0)
    ∷ []
    ≡ Some 110 ∷ Some 104 ∷ None ∷ None ∷ Some 100 ∷ []
levels = refl

end_with_a_point : line_end 104 112 None 0 (line Slew false 3 1 2 0) ≡ line Slew true 3 2 1 0
unfolding ticked_times
end_with_a_point = refl

-- 104 is the first multiple of 8 after 100
next_multiple : IsFirstPoint 8 100 4
next_multiple = record { later = omega arith; divides = refl; first = λ j low high. omega arith }

not_the_multiple_after_it : IsFirstPoint 8 100 12 → ⊥
not_the_multiple_after_it point = point.first 4 (omega arith) (omega arith) refl

events_in_order : after_events (Tick ∷ Tick ∷ Acknowledgement ∷ CatchUpPoint ∷ []) (line_at_power_on Slew) ≡ line Slew true 2 2 0 0
events_in_order = refl

ticks_alone_are_counted : ticks_of (Tick ∷ Acknowledgement ∷ Tick ∷ CatchUpPoint ∷ []) ≡ 2
ticks_alone_are_counted = refl

-- the field that fails: none waits under Discard, none is lost under Delay and Slew, and each due tick is counted, but no more
faults : map first_fault
    (line Discard true 3 1 2 0
    ∷ line Delay true 3 1 0 2
    ∷ line Slew false 3 1 0 2
    ∷ line Discard true 4 1 0 2
    ∷ line Delay true 3 4 0 0
    ∷ line Discard false 3 1 0 2
    ∷ [])
    ≡ Some Queue ∷ Some Lost ∷ Some Lost ∷ Some Lost ∷ Some Lost ∷ None ∷ []
faults = refl

sum_is_a_condition : IsTickLine (line Slew true 4 1 2 0) → ⊥
sum_is_a_condition is = omega (arith, is.sum)

discard_is_a_condition : IsTickLine (line Discard true 3 1 2 0) → ⊥
discard_is_a_condition is = omega (arith, is.policy)

delay_is_a_condition : IsTickLine (line Delay true 3 1 0 2) → ⊥
delay_is_a_condition is = omega (arith, is.policy)

slew_is_a_condition : IsTickLine (line Slew true 3 1 0 2) → ⊥
slew_is_a_condition is = omega (arith, is.policy)

-- policies by their numbers, of which there are three
policies : map policy_of (0 ∷ 1 ∷ policy_byte Slew ∷ []) ≡ Discard ∷ Delay ∷ Slew ∷ []
policies = refl

three_is_none : IsStored (record { policy = 3; up = false; counts = (line_at_power_on Slew).counts }) → ⊥
three_is_none is = omega (arith, is.byte)
