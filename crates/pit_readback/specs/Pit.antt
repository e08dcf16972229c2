-- Three counters and the speaker bit.
use Rattle.std.specs.Prelude.{ℕ, zero, suc, true, false, [], ◌∷◌, map, slice_index_or, slice_set}
use Rattle.pit_counter.specs.declared.parts.CounterParts.{CounterParts}
use Rattle.pit_counter.specs.Programming.{counter_at_power_on}
use Rattle.pit_counter.specs.Table.{pulsed}
use Rattle.pit_readback.specs.declared.parts.PitParts.{PitParts}

-- a counter by its number
abbrev pub counter_of : PitParts → ℕ → CounterParts
counter_of p k = slice_index_or p.counters k (counter_at_power_on true)

-- another counter in its place
abbrev pub with_counter : ℕ → CounterParts → PitParts → PitParts
with_counter k c p = record p { counters = slice_set p.counters k c }

-- power on: each counter as at its power on, GATE of counter 2 and the
-- speaker bit low (own)
abbrev pub pit_at_power_on : PitParts
pit_at_power_on = record {
  counters = counter_at_power_on true ∷ counter_at_power_on true ∷ counter_at_power_on false ∷ [];
  speaker = false;
}

-- each counter takes one CLK pulse
unfoldable pub pit_pulsed : PitParts → PitParts
pit_pulsed p = record p { counters = map pulsed p.counters }

-- each counter takes n CLK pulses
unfoldable pub pit_pulsed_times : ℕ → PitParts → PitParts
pit_pulsed_times zero p = p
pit_pulsed_times (suc n) p = pit_pulsed (pit_pulsed_times n p)
