-- The matches of timers over a stretch; private contracts alone cite them.
use Rattle.std.specs.Prelude.{◌≡◌, ℕ, suc, ◌<◌, ◌≤◌, List}
use Rattle.clk_units.specs.Events.{IsFirst}
use Rattle.hpet_comparator.specs.Counter.{counter_after}
use Rattle.hpet_comparator.specs.declared.parts.TimerParts.{TimerParts}
use Rattle.hpet_comparator.specs.declared.stretch.Matches.{Matches}
use Rattle.hpet_comparator.specs.Stretch.{matches_at, pulsed_times, matches_in, spacing_of}
use Rattle.hpet_comparator.specs.Stretch.{falls_on}
use Rattle.hpet_registers.specs.declared.parts.HpetParts.{HpetParts}
use Rattle.hpet_registers.specs.Parts.{timer_at}
use Rattle.hpet_registers.specs.Stretch.{no_matches, timer_matches, matches_next, hpet_pulsed_times, matches_of}

-- these are a timer's matches over n pulses of a main counter that was at from
pub record AreMatches (from n : ℕ) (t : TimerParts) (m : Matches) : Type 0 where
  pub count : m.count ≡ matches_in from t n
  pub few : m.count ≤ n
  pub first : IsFirst (matches_in from t) n m.first
  pub every : (i : ℕ) → i < n
      → matches_at (counter_after from (suc i)) (pulsed_times from i t)
      ≡ falls_on m.first m.count (spacing_of t) (suc i)

-- the matches of so many timers: none from `reach` on matched, and no place after them holds any
pub record AreMatchesBelow (reach timers : ℕ) (matches : List Matches) : Type 0 where
  pub none : (k : ℕ) → timers ≤ k → timer_matches matches k ≡ no_matches
  pub inside : reach ≤ timers
  pub places : reach ≤ 8
  pub quiet : (k : ℕ) → reach ≤ k → (timer_matches matches k).count ≡ 0

-- the HPET has taken n pulses, and these are its timers' matches
pub record HasTaken (n : ℕ) (before after : HpetParts) (matches : List Matches) (reach : ℕ) : Type 0 where
  pub state : after ≡ hpet_pulsed_times n before
  pub count : (k : ℕ) → (timer_matches matches k).count ≡ matches_of k before n
  pub few : (k : ℕ) → (timer_matches matches k).count ≤ n
  pub first : (k : ℕ) → IsFirst (matches_of k before) n (timer_matches matches k).first
  pub every : (k i : ℕ) → i < n
      → matches_next k (hpet_pulsed_times i before)
      ≡ falls_on (timer_matches matches k).first (timer_matches matches k).count (spacing_of (timer_at k before)) (suc i)
  pub below : AreMatchesBelow reach before.timers matches
