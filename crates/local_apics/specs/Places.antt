-- The timers and their tick lines by processor.
use Rattle.std.specs.Prelude.{ℕ, suc, List, [], ◌∷◌, slice_index_or}
use Rattle.tick_policy.specs.declared.parts.TickParts.{TickParts}
use Rattle.tick_policy.specs.declared.parts.Policy.TheVariants.{Discard}
use Rattle.tick_policy.specs.Line.{line_at_power_on}
use Rattle.tsc_scale.specs.declared.Tsc.{Tsc}
use Rattle.lapic_timer.specs.declared.parts.ApicParts.{ApicParts}
use Rattle.local_apics.specs.declared.parts.ApicsParts.{ApicsParts}

-- what is done at each place, from place k on
abbrev pub each : {X : Type 0} → (ℕ → X → X) → ℕ → List X → List X
each f k [] = []
each f k (x ∷ xs) = f k x ∷ each f (suc k) xs

-- the timer in the place of a processor that isn't there: all its fields are 0
abbrev pub no_timer : ApicParts
no_timer = record { lvt = 0; divide = 0; initial = 0; current = 0; phase = 0; deadline = 0 }

-- .. its tick line
abbrev pub no_line : TickParts
no_line = line_at_power_on Discard

-- .. and the numbers of its TSC
abbrev pub no_tsc : Tsc
no_tsc = record { offset = 0; adjust = 0 }

-- the timer of a processor
abbrev pub timer_at : ℕ → ApicsParts → ApicParts
timer_at k a = slice_index_or a.timers k no_timer

-- .. and its tick line
abbrev pub line_at : ℕ → ApicsParts → TickParts
line_at k a = slice_index_or a.lines k no_line
