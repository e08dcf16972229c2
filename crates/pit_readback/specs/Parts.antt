-- The conditions on the fields of a timer.
use Rattle.std.specs.Prelude.{
  ◌≡◌,
  ℕ,
  nat_le,
  ◌&&◌,
  ◌||◌,
  not,
  IsTrue,
  length,
  Option,
  Some,
  None,
  if◌then◌else◌,
}
use Rattle.pit_counter.specs.Parts.{IsCounter, bits_valid, flags_valid, first_fault}
use Rattle.pit_counter.specs.declared.parts.CounterParts.{CounterParts}
use Rattle.pit_counter.specs.declared.parts.CounterField.{CounterField}
use Rattle.pit_counter.specs.declared.parts.CounterField.TheVariants.{ProgrammedBits, Flags}
use Rattle.pit_readback.specs.Pit.{counter_of}
use Rattle.pit_readback.specs.declared.parts.PitFault.{PitFault}
use Rattle.pit_readback.specs.declared.parts.PitParts.{PitParts}

-- the fields of a timer: three counters, with GATE of counters 0 and 1 high
pub record IsPit (p : PitParts) : Type 0 where
  pub three : length p.counters ≡ 3
  pub first : IsCounter (counter_of p 0)
  pub second : IsCounter (counter_of p 1)
  pub third : IsCounter (counter_of p 2)
  pub gate_of_first : IsTrue (counter_of p 0).gate
  pub gate_of_second : IsTrue (counter_of p 1).gate

-- the first field of counter k whose condition fails: that GATE of counters 0 and 1 is high is a
-- condition on the flags
abbrev pub fault_of : ℕ → CounterParts → Option CounterField
fault_of k c =
    if not (bits_valid c) then Some ProgrammedBits
    else if not (flags_valid c && (c.gate || nat_le 2 k)) then Some Flags
    else first_fault c

-- a fault of counter k, or else a later one
abbrev pub fault_at : ℕ → Option CounterField → Option PitFault → Option PitFault
fault_at k (Some field) later = Some (record { counter = k; field = field })
fault_at k None later = later

-- the first field of three counters whose condition fails
abbrev pub pit_fault : PitParts → Option PitFault
pit_fault p =
    fault_at 0 (fault_of 0 (counter_of p 0))
    (fault_at 1 (fault_of 1 (counter_of p 1))
    (fault_at 2 (fault_of 2 (counter_of p 2)) None))
