-- What is planned of the MC146818: the pulses that come next and move the divider's count alone.
use Rattle.std.specs.Prelude.{◌≡◌, ℕ, ◌-◌, ◌%◌, ◌^◌, min, Bool, ◌==◌, if◌then◌else◌}
use Rattle.rtc_cycle.specs.declared.parts.DividerParts.{DividerParts}
use Rattle.rtc_cycle.specs.Divider.{period}
use Rattle.rtc_registers.specs.declared.parts.RtcParts.{RtcParts}
use Rattle.rtc_registers.specs.Parts.{IsRtc}
use Rattle.rtc_registers.specs.Registers.{pf_of, divider_of}

-- more pulses than a second has
abbrev pub forever : ℕ
forever = 2 ^ 16 - 1

-- so many pulses of a divider that runs begin no second, and end no update cycle in progress
abbrev pub before_turn : DividerParts → ℕ
before_turn p = (if p.cycle then 64 else 32767) - p.d

-- so many bring no periodic event; at rate 0 none does
abbrev pub before_tick : DividerParts → ℕ
before_tick p = if p.rs == 0 then forever else period p.rs - 1 - p.d % period p.rs

-- so many move the count alone: with PF up a periodic event changes nothing, and where the divider is
-- held no pulse does
unfoldable pub plan_by : Bool → DividerParts → ℕ
plan_by pf p =
    if p.dv == 2 then (if pf then before_turn p else min (before_turn p) (before_tick p)) else forever

-- the plan of a clock
abbrev pub plan_of : RtcParts → ℕ
plan_of r = plan_by (pf_of r) (divider_of r)

-- the fields of a clock, with the plan of them
pub record IsPlanned (r : RtcParts) (quiet : ℕ) : Type 0 where
  pub valid : IsRtc r
  pub planned : quiet ≡ plan_of r
