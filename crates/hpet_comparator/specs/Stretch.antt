-- The pulses of a timer, one and many (IA-PC HPET specification 1.0a, section 2.3.9).
use Rattle.std.specs.Prelude.{ℕ, zero, suc, ◌+◌, ◌-◌, ◌/◌, ◌%◌, Bool, false, ◌&&◌, ◌==◌, nat_lt}
use Rattle.std.specs.Prelude.{nat_le, if◌then◌else◌, Option, Some, None}
use Rattle.hpet_comparator.specs.Counter.{counter_after}
use Rattle.hpet_comparator.specs.declared.parts.TimerParts.{TimerParts}
use Rattle.hpet_comparator.specs.Parts.{is_periodic, modulus}

-- whether the timer matches a main counter that a pulse has brought to c: all of it, or its low
-- half in 32-bit mode (2.3.9.1); only a pulse makes a match (own)
unfoldable pub matches_at : ℕ → TimerParts → Bool
matches_at c t = c % modulus t == t.comparator

-- one pulse that brings the main counter to c: at a match a periodic timer adds its period
-- (2.3.9.2.2)
unfoldable pub pulsed : ℕ → TimerParts → TimerParts
pulsed c t = record t {
  comparator =
      if matches_at c t && is_periodic t then (t.comparator + t.period) % modulus t
      else t.comparator;
}

-- n pulses of a main counter that was at from
abbrev pub pulsed_times : ℕ → ℕ → TimerParts → TimerParts
pulsed_times from zero t = t
pulsed_times from (suc n) t = pulsed (counter_after from (suc n)) (pulsed_times from n t)

-- how many of them match
abbrev pub matches_in : ℕ → TimerParts → ℕ → ℕ
matches_in from t zero = 0
matches_in from t (suc n) =
    if matches_at (counter_after from (suc n)) (pulsed_times from n t)
    then suc (matches_in from t n)
    else matches_in from t n

-- the pulses from one match to the next: the period, or a whole round of the counter for a one-shot
-- timer and for a period of 0
abbrev pub spacing_of : TimerParts → ℕ
spacing_of t = if is_periodic t && nat_lt 0 t.period then t.period else modulus t

-- so many pulses come before the timer's next match, where the main counter is at c
unfoldable pub pulses_before : ℕ → TimerParts → ℕ
pulses_before c t = (t.comparator + (modulus t - 1 - c % modulus t)) % modulus t

-- whether i is one of `count` numbers: first, first + every, first + 2 * every and so on
abbrev pub falls_on : Option ℕ → ℕ → ℕ → ℕ → Bool
falls_on None count every i = false
falls_on (Some first) count every i =
    nat_le first i && ((i - first) % every == 0 && nat_lt ((i - first) / every) count)
