-- Events that steps of some device bring, one at most a step: `count n` is how many the first n steps bring.
use Rattle.std.specs.Prelude.{
  ◌≡◌,
  ℕ,
  suc,
  ◌+◌,
  ◌-◌,
  ◌<◌,
  ◌≤◌,
  Bool,
  if◌then◌else◌,
  Option,
  Some,
  None,
}
use Rattle.clk_units.specs.Pulses.{pulses_by, time_of}

-- no step brings more than one, and none comes before the first step
pub record CountsUp (count : ℕ → ℕ) : Type 0 where
  pub none : count 0 ≡ 0
  pub keeps : (n : ℕ) → count n ≤ count (suc n)
  pub few : (n : ℕ) → count (suc n) ≤ suc (count n)

-- `first` is the step, counted from 1, that brings the first event of n steps, or none of them does
abbrev pub IsFirst : (ℕ → ℕ) → ℕ → Option ℕ → Type 0
IsFirst count n None = count n ≡ 0
IsFirst count n (Some k) = (0 < k) × (k ≤ n) × (count (k - 1) ≡ 0) × (0 < count k)

-- the first so far, after one step more that may bring an event
abbrev pub first_more : Option ℕ → ℕ → Bool → Option ℕ
first_more (Some k) n event = Some k
first_more None n event = if event then Some (suc n) else None

-- the nanosecond of a first event, of a device whose steps are the pulses after nanosecond t
abbrev pub first_at : ℕ → ℕ → Option ℕ → Option ℕ
first_at hz t None = None
first_at hz t (Some k) = Some (time_of hz (pulses_by hz t + k))
