use Rattle.std.proofs.Common.{refl, ap, ◌∙◌}
use Rattle.board_types.specs.declared.parts.BoardParts.{BoardParts}
use Rattle.board_core.proofs.LazySteps.{IsLazy-none}
use Rattle.clockboard_c.specs.Kept.{LaggingBoard}
use Rattle.clockboard_c.specs.States.{state_after_move}
use Rattle.clockboard_c.proofs.Kept.{changed, settled}
use Rattle.clockboard_c.proofs.states.move_board.Goals as goal

pub invariant_of-board : goal.invariant_of-board
invariant_of-board c = record {
  lazy = IsLazy-none _;
  next = refl;
  time = settled _ _ c.now-board-inside.ensures.value;
}

pub returns-clause-board : goal.returns-clause-board
returns-clause-board c =
    changed c.board.inside.seal c.board.inside.shared c.board.inside.next.known c.board.inside.lag c.board.inside.state _ (λ (s : BoardParts). state_after_move s c.args.khz c.args.start c.args.gap_ns)
    c.args.board.now (ap (λ (b : LaggingBoard). b.seal) (c.board.view_is ∙ c.catch_up.ensures.board))
    (ap (λ (b : LaggingBoard). b.shared) (c.board.view_is ∙ c.catch_up.ensures.board))
    (ap (λ (b : LaggingBoard). b.state) (c.board.view_is ∙ c.catch_up.ensures.board)) c.move_on.ensures.state
