-- A trace that was read whole.
use Rattle.std.specs.Prelude.{Bool, List}
use Rattle.board_types.specs.declared.parts.BoardParts.{BoardParts}
use Rattle.trace_blocks.specs.declared.deliveries.Deliveries.{Deliveries}
use Rattle.race_phase.specs.declared.phases.Phase.{Phase}

-- the board that the trace begins with, who gets the rises of its lines, its phases, and whether
-- the board's state is shown at its end
pub record TraceRead : Type 0 where
  pub opening : BoardParts
  pub deliveries : Deliveries
  pub phases : List Phase
  pub shows_state : Bool
