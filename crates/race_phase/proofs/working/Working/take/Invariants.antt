use Rattle.std.proofs.Common.{◌≤◌, ◌+◌, ◌++◌, ℕ, List, length, take}
use Rattle.trace_blocks.specs.declared.records.Record.{Record}
use Rattle.race_phase.specs.private.Working.{IsReady, IsWorking}
use Rattle.race_phase.proofs.working.Working.take.Given as goal

abbrev pub invariant-loop-place : goal.invariant-loop-place
invariant-loop-place g l = record {
  ready : IsReady g.N.Name.state l.self;
  most : l.at_once ≤ 16;
  few : l.self.answered + length l.self.waiting.items ≤ l.fn.self.answered + length l.fn.self.waiting.items + l.place;
  done : (n : ℕ) (rs : List Record) → IsWorking g.N.Name.state l.worker.deliveries.now n rs l.fn.self
      → IsWorking g.N.Name.state l.worker.deliveries.now n (rs ++ take l.place l.records) l.self;
}
