use Rattle.std.proofs.Common.{length, ◌-◌, ◌≤◌, take}
use Rattle.board_history.specs.History.{IsLegal}
use Rattle.shared_board.specs.declared.known.PassKnown.{PassKnown}
use Rattle.race_phase.specs.private.Workers.{AllAnswered}
use Rattle.race_phase.proofs.batch.answer_run.Given as goal

abbrev pub invariant-loop-done : goal.invariant-loop-done
invariant-loop-done g l = record {
  from : l.fn.from ≤ l.done;
  behind : l.done ≤ length l.records;
  legal : IsLegal l.pass.seen;
  all : (p : PassKnown) → AllAnswered g.N.Name.state (take l.fn.from l.records) (take l.fn.from l.fn.places) p l.fn.pass
      → AllAnswered g.N.Name.state (take l.done l.records) (take l.done l.places) p l.pass;
}

abbrev pub decreases-loop-done : goal.decreases-loop-done
decreases-loop-done g l = length l.records - l.done
