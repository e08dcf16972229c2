-- The conditions on a board's parts, place by place.
use Rattle.std.specs.Prelude.{◌≡◌, ℕ, ◌+◌, ◌≤◌, Bool}
use Rattle.board_types.specs.declared.parts.ProcessorParts.{ProcessorParts}
use Rattle.board_devices.specs.Rises.{one_if}
use Rattle.board_core.specs.Tsc.{no_processor}
use Rattle.board_core.specs.Conditions.{IsProcessor}

-- the place k of the processors
pub record IsPlace (guest_khz cpus k : ℕ) (p : ProcessorParts) : Type 0 where
  pub valid : IsProcessor guest_khz p
  pub absent : cpus ≤ k → p ≡ no_processor

-- the count of rises of a line
pub record IsCount (format accesses : ℕ) (up : Bool) (count : ℕ) : Type 0 where
  pub most : count ≤ accesses + one_if up
  pub none : format ≤ 1 → count ≡ 0
