-- Words for many pulses of a timer at once; private contracts alone cite them.
use Rattle.std.specs.Prelude.{◌≡◌, ℕ, ◌+◌, ◌*◌, ◌%◌, ◌<◌, ◌≤◌, if◌then◌else◌}
use Rattle.hpet_comparator.specs.declared.parts.TimerParts.{TimerParts}
use Rattle.hpet_comparator.specs.Parts.{is_periodic, modulus}

-- a main counter at c has d pulses before it to the timer's next match
pub record IsDue (c : ℕ) (t : TimerParts) (d : ℕ) : Type 0 where
  pub ahead : 0 < d
  pub within : d ≤ modulus t
  pub reaches : (c + d) % modulus t ≡ t.comparator

-- the timer after q matches
abbrev pub advanced : ℕ → TimerParts → TimerParts
advanced q t = record t {
  comparator =
      if is_periodic t then (t.comparator + q * t.period) % modulus t else t.comparator;
}
