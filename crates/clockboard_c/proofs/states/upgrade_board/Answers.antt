use Rattle.std.proofs.Common.{refl, ap, sym, ◌∙◌}
use Rattle.board_core.specs.Upgrade.{upgraded_to}
use Rattle.board_core.proofs.LazySteps.{IsLazy-none}
use Rattle.clockboard_c.specs.Kept.{LaggingBoard}
use Rattle.clockboard_c.proofs.Kept.{changed, settled}
use Rattle.clockboard_c.proofs.states.upgrade_board.Goals as goal

pub invariant_of-board : goal.invariant_of-board
invariant_of-board c = record {
  lazy = IsLazy-none _;
  next = refl;
  time = settled _ _ c.now-board-inside.ensures.value;
}

pub returns : goal.returns
returns c =
    changed c.board.inside.seal c.board.inside.shared c.board.inside.next.known c.board.inside.lag c.board.inside.state _
    (upgraded_to c.args.format) c.args.board.now (ap (λ (b : LaggingBoard). b.seal) c.board.view_is)
    (ap (λ (b : LaggingBoard). b.shared) c.board.view_is)
    (ap (λ (b : LaggingBoard). b.state) c.board.view_is
    ∙ sym c.requires.up) c.upgraded-board-inside.ensures.state
