-- What a check has found so far: no fault.
use Rattle.std.specs.Prelude.{◌≡◌, ◌≤◌, length, All, None}
use Rattle.board_core.specs.Refusals.{meters_of}
use Rattle.race_phase.specs.Calls.{IsFitting}
use Rattle.race_phase.specs.Order.{after_records, records_refusal}
use Rattle.trace_runner.specs.Free.{after_phases, IsFree}
use Rattle.trace_runner.specs.Checking.{Checking}

-- the phases so far have no fault, nor have the records after them. The meters of the replay's board are
-- those of file order
pub record IsSound (s : Checking) : Type 0 where
  pub done : IsFree s.opening s.phases
  pub fit : All (IsFitting s.opening.cpus s.opening.format) s.last
  pub free : records_refusal (after_phases (meters_of s.opening) s.phases) s.last ≡ None
  pub meters : meters_of s.replay.board
      ≡ after_records (after_phases (meters_of s.opening) s.phases) s.last
  pub cpus : s.replay.board.cpus ≡ s.opening.cpus
  pub format : s.replay.board.format ≡ s.opening.format
  pub few : length s.last ≤ s.taken
