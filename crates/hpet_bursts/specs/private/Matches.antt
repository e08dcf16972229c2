-- The matches of one timer of an HPET over a stretch; private contracts alone cite them.
use Rattle.std.specs.Prelude.{◌≡◌, ℕ, suc, ◌<◌}
use Rattle.clk_units.specs.Events.{IsFirst}
use Rattle.hpet_comparator.specs.declared.stretch.Matches.{Matches}
use Rattle.hpet_comparator.specs.Stretch.{spacing_of, falls_on}
use Rattle.hpet_registers.specs.declared.parts.HpetParts.{HpetParts}
use Rattle.hpet_registers.specs.Parts.{timer_at}
use Rattle.hpet_registers.specs.Stretch.{matches_next, hpet_pulsed_times, matches_of}

-- these are the matches of timer k over n pulses of an HPET that was h
pub record AreMatches (k n : ℕ) (h : HpetParts) (m : Matches) : Type 0 where
  pub count : m.count ≡ matches_of k h n
  pub first : IsFirst (matches_of k h) n m.first
  pub every : (i : ℕ) → i < n
      → matches_next k (hpet_pulsed_times i h)
      ≡ falls_on m.first m.count (spacing_of (timer_at k h)) (suc i)
