-- The conditions on the timers and their lines, and which timers do something with time. A tick
-- that finds its line up is lost: the policy is Discard (own).
use Rattle.std.specs.Prelude.{◌≡◌, ℕ, ◌-◌, ◌<◌, Bool, false, ◌&&◌, ◌==◌, nat_lt, length}
use Rattle.std.specs.Prelude.{true, List, ◌++◌, replicate}
use Rattle.tick_policy.specs.declared.parts.Policy.TheVariants.{Discard}
use Rattle.tick_policy.specs.declared.parts.TickParts.{TickParts}
use Rattle.tick_policy.specs.Parts.{IsTickLine}
use Rattle.lapic_timer.specs.declared.parts.ApicParts.{ApicParts}
use Rattle.lapic_timer.specs.Parts.{IsApicTimer, apic_at_power_on}
use Rattle.local_apics.specs.declared.parts.ApicsParts.{ApicsParts}
use Rattle.local_apics.specs.Places.{no_timer, no_line, timer_at, line_at}

-- an idle timer: its count is 0, and no deadline is armed
abbrev pub is_idle : ApicParts → Bool
is_idle p = p.current == 0 && p.deadline == 0

-- all of them are idle
abbrev pub AreIdle : ApicsParts → Type 0
AreIdle a = (k : ℕ) → k < 64 → is_idle (timer_at k a) ≡ true

-- 64 places, and the policy of the lines
pub record AreApicPlaces (a : ApicsParts) : Type 0 where
  pub timers : length a.timers ≡ 64
  pub lines : length a.lines ≡ 64
  pub policy : (k : ℕ) → k < 64 → (line_at k a).policy ≡ Discard

-- what the place of a processor holds: a timer and its tick line, and nothing where it isn't there
pub record IsPlaceOf (is_there : Bool) (p : ApicParts) (l : TickParts) : Type 0 where
  pub timer : IsApicTimer p
  pub line : IsTickLine l
  pub policy : l.policy ≡ Discard
  pub no_timer : is_there ≡ false → p ≡ no_timer
  pub no_line : is_there ≡ false → l ≡ no_line

-- the timers and lines of so many processors
pub record AreApicsOf (cpus : ℕ) (a : ApicsParts) : Type 0 where
  pub timers : length a.timers ≡ 64
  pub lines : length a.lines ≡ 64
  pub place : (k : ℕ) → k < 64 → IsPlaceOf (nat_lt k cpus) (timer_at k a) (line_at k a)

-- the timers at power on
abbrev pub timers_at_power_on : ℕ → List ApicParts
timers_at_power_on cpus = replicate cpus apic_at_power_on ++ replicate (64 - cpus) no_timer

-- .. with their lines
abbrev pub apics_at_power_on : ℕ → ApicsParts
apics_at_power_on cpus = record { timers = timers_at_power_on cpus; lines = replicate 64 no_line }
