-- What a worker has done of a phase.
use Rattle.std.specs.Prelude.{◌≡◌, ℕ, ◌<◌, List, All, length, true, false}
use Rattle.trace_blocks.specs.declared.deliveries.Deliveries.{Deliveries}
use Rattle.board_types.specs.declared.parts.BoardParts.{BoardParts}
use Rattle.board_history.specs.History.{IsLegal}
use Rattle.trace_blocks.specs.declared.records.Record.{Record}
use Rattle.race_phase.specs.declared.working.Working.{Working}
use Rattle.race_phase.specs.Calls.{IsFitting, records_of}
use Rattle.race_phase.specs.private.Workers.{AllButLast, HasStopped}

-- it may go on: the records that wait fit, and there are fewer of them than places
pub record IsReady {N : Type 0} (s : BoardParts) (w : Working N) : Type 0 where
  pub places : length w.places.items ≡ 16
  pub few : length w.waiting.items < 16
  pub fitting : All (IsFitting s.cpus s.format) w.waiting.items
  pub legal : w.halted ≡ false → IsLegal w.pass.seen

-- of these records the pass n has answered all but those that wait; or it has stopped at one
pub record IsWorking {N : Type 0} (s : BoardParts) (ds : Deliveries) (n : ℕ) (rs : List Record)
    (w : Working N) : Type 0 where
  pub number : w.pass.number ≡ n
  pub going : w.halted ≡ false → AllButLast s ds n (records_of n rs) w.waiting.items w.text.items w.pass
  pub stopped : w.halted ≡ true → HasStopped s ds n (records_of n rs) w.pass
