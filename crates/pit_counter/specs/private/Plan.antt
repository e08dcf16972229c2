-- What is planned of a counter: the quiet pulses that come next, as long as the count stays above 0.
use Rattle.std.specs.Prelude.{◌≡◌, ℕ, ◌-◌, min, if◌then◌else◌}
use Rattle.pit_counter.specs.Mode.{mode_of}
use Rattle.pit_counter.specs.Count.{meant_count}
use Rattle.pit_counter.specs.Parts.{IsCounter}
use Rattle.pit_counter.specs.Table.{effect_in}
use Rattle.pit_counter.specs.private.Stretch.{step_of, is_still, divides, forever, quiet_for}
use Rattle.pit_counter.specs.declared.table.Effect.{Effect}
use Rattle.pit_counter.specs.declared.plan.Plan.{Plan}
use Rattle.pit_counter.specs.declared.parts.CounterParts.{CounterParts}

-- for how many pulses with this effect a plan holds: after the last of them the next still has it
abbrev pub planned_for : Effect → CounterParts → ℕ
planned_for e c = if is_still e c.out then forever else min (quiet_for e c) c.ce - 1

-- .. and how long the period is that they divide by
abbrev pub planned_period : Effect → CounterParts → ℕ
planned_period e c = if divides e then meant_count c.bits c.cr else 0

abbrev pub plan_by : Effect → CounterParts → Plan
plan_by e c = record { quiet = planned_for e c; period = planned_period e c; step = step_of e }

-- the plan of a counter
unfoldable pub plan_of : CounterParts → Plan
plan_of c = plan_by (effect_in (mode_of c.bits) c) c

-- the fields of a counter, with the plan of them
pub record IsPlanned (c : CounterParts) (plan : Plan) : Type 0 where
  pub valid : IsCounter c
  pub planned : plan ≡ plan_of c
