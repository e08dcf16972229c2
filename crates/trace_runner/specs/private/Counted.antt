-- What is known of the parts of a check.
use Rattle.std.specs.Prelude.{◌≡◌, Some, IfSome}
use Rattle.board_types.specs.declared.parts.BoardParts.{BoardParts}
use Rattle.race_phase.specs.Parts.{WriterParts}
use Rattle.board_meters.specs.declared.meters.Meters.{Meters}
use Rattle.board_core.specs.Refusals.{meters_of}
use Rattle.trace_blocks.specs.declared.deliveries.Deliveries.{Deliveries}
use Rattle.trace_runner.specs.Replayed.{replayed}

-- the meters are those of the board that the records of the writer leave, which are to fit boards of
-- its size; and what the writer put as the opening is what the check began with
pub record IsCounted (b : BoardParts) (ds : Deliveries) (w : WriterParts) (m : Meters) : Type 0 where
  pub meters : m ≡ meters_of (replayed b w.phases w.last)
  pub cpus : w.cpus ≡ m.cpus
  pub format : w.format ≡ m.format
  pub opened : IfSome w.opened (λ o. o ≡ Some (record { state = b; deliveries = ds }))
