-- How the fields of a timer are seen, and how GATE is wired.
use Rattle.std.specs.Prelude.{◌≡◌, ℕ, ◌<◌, IsTrue, length}
use Rattle.pit_readback.specs.Pit.{counter_of}
use Rattle.pit_readback.specs.declared.parts.PitParts.{PitParts}
use Rattle.pit_readback.specs.declared.pit.Pit.TheInside.{Inside}

-- what a timer holds
abbrev pub parts_of : Inside → PitParts
parts_of p = record { counters = p.counters; speaker = p.speaker }

-- there are three counters, and GATE of counters 0 and 1 is high
pub record IsWired (p : PitParts) : Type 0 where
  pub three : length p.counters ≡ 3
  pub high : (k : ℕ) → k < 2 → IsTrue (counter_of p k).gate
