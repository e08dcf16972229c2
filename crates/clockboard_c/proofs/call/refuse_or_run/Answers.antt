use Rattle.std.proofs.Common.{rules}
use Rattle.clockboard_c.proofs.call.refuse_or_run.Goals as goal

pub run-requires : goal.run-requires
run-requires c = record {
  there = search rules;
  legal = search rules;
}
