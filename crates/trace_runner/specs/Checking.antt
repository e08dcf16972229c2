-- What a check of a trace knows after some of its lines.
use Rattle.std.specs.Prelude.{ℕ, List}
use Rattle.board_types.specs.declared.parts.BoardParts.{BoardParts}
use Rattle.trace_blocks.specs.declared.records.Record.{Record}
use Rattle.trace_replay.specs.declared.replay.Replay.{Replay}
use Rattle.race_phase.specs.declared.phases.Phase.{Phase}

-- the replay of its records in file order, the board that it began with, the phases so far, the
-- records after the last of them, and how many records there were in all
pub record Checking : Type 0 where
  pub replay : Replay
  pub opening : BoardParts
  pub phases : List Phase
  pub last : List Record
  pub taken : ℕ
