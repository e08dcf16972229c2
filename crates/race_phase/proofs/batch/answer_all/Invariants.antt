use Rattle.std.proofs.Common.{length, ◌-◌, ◌≤◌, take}
use Rattle.board_history.specs.History.{IsLegal}
use Rattle.race_phase.specs.private.Workers.{AllAnswered}
use Rattle.race_phase.proofs.batch.answer_all.Given as goal

abbrev pub invariant-loop-done : goal.invariant-loop-done
invariant-loop-done g l = record {
  end : l.done ≤ length l.records;
  legal : IsLegal l.pass.seen;
  all : AllAnswered g.N.Name.state (take l.done l.records) (take l.done l.places) l.fn.pass l.pass;
}

abbrev pub decreases-loop-done : goal.decreases-loop-done
decreases-loop-done g l = length l.records - l.done
