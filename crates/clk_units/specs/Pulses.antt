-- The pulses of a clock of `hz` pulses a second, seen from nanosecond 0.
use Rattle.std.specs.Prelude.{ℕ, zero, suc, ◌+◌, ◌-◌, ◌*◌, ◌/◌, ◌≤◌, Bool, nat_lt, if◌then◌else◌}

-- how many pulses the clock has seen at nanosecond t
unfoldable pub pulses_by : ℕ → ℕ → ℕ
pulses_by hz t = t * hz / 1000000000

-- whether a pulse falls at nanosecond t: there the number seen rises
unfoldable pub falls_at : ℕ → ℕ → Bool
falls_at hz t = nat_lt (pulses_by hz (t - 1)) (pulses_by hz t)

-- how many pulses fall at the nanoseconds 1 to t
abbrev pub falls_up_to : ℕ → ℕ → ℕ
falls_up_to hz zero = 0
falls_up_to hz (suc t) = if falls_at hz (suc t) then suc (falls_up_to hz t) else falls_up_to hz t

-- how many pulses fall in the n nanoseconds after t
unfoldable pub pulses_from : ℕ → ℕ → ℕ → ℕ
pulses_from hz t n = pulses_by hz (t + n) - pulses_by hz t

-- the nanosecond at which pulse n falls, pulses being counted from 1; 0 for none
unfoldable pub time_of : ℕ → ℕ → ℕ
time_of hz n = (n * 1000000000 + hz - 1) / hz

-- t is the least nanosecond up to which n pulses fall
pub record IsTimeOf (hz n t : ℕ) : Type 0 where
  pub fallen : n ≤ falls_up_to hz t
  pub least : (s : ℕ) → n ≤ falls_up_to hz s → t ≤ s
