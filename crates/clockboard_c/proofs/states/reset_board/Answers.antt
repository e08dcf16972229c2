use Rattle.std.proofs.Common.{refl, ap, ◌∙◌}
use Rattle.board_core.proofs.LazySteps.{IsLazy-none}
use Rattle.clockboard_c.specs.Kept.{LaggingBoard}
use Rattle.board_reset.specs.Reset.{after_reset}
use Rattle.clockboard_c.proofs.Kept.{changed, settled}
use Rattle.clockboard_c.proofs.states.reset_board.Goals as goal

pub invariant_of-board : goal.invariant_of-board
invariant_of-board c = record {
  lazy = IsLazy-none _;
  next = refl;
  time = settled _ _ c.now-board-inside.ensures.value;
}

pub returns-clause-board : goal.returns-clause-board
returns-clause-board c =
    changed c.board.inside.seal c.board.inside.shared c.board.inside.next.known c.board.inside.lag c.board.inside.state _ after_reset
    c.args.board.now (ap (λ (b : LaggingBoard). b.seal) (c.board.view_is ∙ c.catch_up.ensures.board))
    (ap (λ (b : LaggingBoard). b.shared) (c.board.view_is ∙ c.catch_up.ensures.board))
    (ap (λ (b : LaggingBoard). b.state) (c.board.view_is ∙ c.catch_up.ensures.board)) c.reset_at_once.ensures.state
