use Rattle.std.proofs.Common.{refl, ap, sym, ◌∙◌}
use Rattle.board_core.specs.Time.{now_of}
use Rattle.board_core.proofs.Joins.{after_run-zero}
use Rattle.board_core.proofs.LazySteps.{IsLazy-none}
use Rattle.clockboard_c.specs.Call.{sealed}
use Rattle.clockboard_c.proofs.board.sealed.Goals as goal

pub invariant_of-result : goal.invariant_of-result
invariant_of-result c = record {
  lazy = IsLazy-none c.args.state;
  next = refl;
  time = c.now-now_ns.ensures.value ∙ ap now_of (sym (after_run-zero c.args.state));
}

pub returns : goal.returns
returns c = ap sealed (after_run-zero c.args.state)
