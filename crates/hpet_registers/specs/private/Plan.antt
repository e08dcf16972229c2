-- What is planned of the HPET: the pulses that come next and bring no match.
use Rattle.std.specs.Prelude.{◌≡◌, ℕ, zero, suc, ◌-◌, ◌^◌, min, if◌then◌else◌}
use Rattle.hpet_comparator.specs.Stretch.{pulses_before}
use Rattle.hpet_registers.specs.declared.parts.HpetParts.{HpetParts}
use Rattle.hpet_registers.specs.Parts.{IsHpet, timer_at, is_running}

-- more pulses than are ever asked for
abbrev pub forever : ℕ
forever = 2 ^ 64 - 1

-- so many pulses bring no match of a timer below k, and take the main counter no further than its
-- greatest value
unfoldable pub quiet_below : ℕ → HpetParts → ℕ
quiet_below zero h = 2 ^ 64 - 1 - h.counter
quiet_below (suc k) h = min (quiet_below k h) (pulses_before h.counter (timer_at k h))

-- the plan of an HPET: those of all its timers, and any number where the counter stands
unfoldable pub plan_of : HpetParts → ℕ
plan_of h = if is_running h then quiet_below h.timers h else forever

-- the fields of an HPET, with the plan of them
pub record IsPlanned (h : HpetParts) (quiet : ℕ) : Type 0 where
  pub valid : IsHpet h
  pub planned : quiet ≡ plan_of h
