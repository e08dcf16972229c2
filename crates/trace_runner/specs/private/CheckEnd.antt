-- What a check ends with, as it is held, and what a race gives.
use Rattle.std.specs.Prelude.{◌≡◌, None, IfSome}
use Rattle.board_core.specs.Refusals.{meters_of}
use Rattle.race_phase.specs.Phases.{race_text, trace_refusal}
use Rattle.race_phase.specs.declared.race.Ran.{Ran}
use Rattle.trace_runner.specs.Checked.{Checked}
use Rattle.trace_runner.specs.declared.trace.CheckEnd.{CheckEnd}

-- the trace, or the refusal
abbrev pub checked_of : {F : Type 0} → CheckEnd F → Checked
checked_of (CheckEnd.Whole trace) = Checked.Whole trace
checked_of (CheckEnd.Stopped verdict) = Checked.Stopped verdict

-- the trace that was run gave this text, if no line of it is refused in file order
abbrev pub IsRace : {F : Type 0} → Ran F → Type 0
IsRace r =
    IfSome r.trace.opened
    (λ o. trace_refusal (meters_of o.state) r.trace.phases ≡ None
    → race_text o.deliveries o.state r.trace.phases r.state.value r.text)
