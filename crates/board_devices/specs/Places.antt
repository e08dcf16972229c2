-- The ten tick lines by place: 0 is that of the 8254, 1 that of the MC146818, k + 2 that of timer k
-- of the HPET.
use Rattle.std.specs.Prelude.{ℕ, suc, Bool, List, [], ◌∷◌, slice_index_or}
use Rattle.tick_policy.specs.declared.parts.TickParts.{TickParts}
use Rattle.tick_policy.specs.declared.parts.Policy.TheVariants.{Discard}
use Rattle.tick_policy.specs.Line.{line_at_power_on}
use Rattle.tick_policy.specs.Stretch.{ticked_where}
use Rattle.board_devices.specs.declared.parts.DeviceParts.{DeviceParts}

-- what is done at each place, from place k on
abbrev pub each : (ℕ → TickParts → TickParts) → ℕ → List TickParts → List TickParts
each f k [] = []
each f k (l ∷ ls) = f k l ∷ each f (suc k) ls

-- a tick is due at each place at which the test holds
abbrev pub ticked_at : (ℕ → Bool) → List TickParts → List TickParts
ticked_at test ls = each (λ k l. ticked_where (test k) l) 0 ls

-- what the place of a line that isn't there holds
abbrev pub no_line : TickParts
no_line = line_at_power_on Discard

-- the line at place k
abbrev pub line_at : ℕ → DeviceParts → TickParts
line_at k d = slice_index_or d.ticks k no_line
