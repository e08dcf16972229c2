use Rattle.std.proofs.Common.{ℕ, max, ap, ◌∙◌}
use Rattle.clockboard_c.proofs.Kept.{greatest-next, greatest-time, greatest-lazy, closed-as}
use Rattle.clockboard_c.proofs.shared.close.Goals as goal

pub invariant_of-board : goal.invariant_of-board
invariant_of-board c = record {
  lazy = greatest-lazy c.board.inside.state _ _ c.board.inside.lag c.set_greatest.ensures c.board.invariant.lazy;
  next = greatest-next c.board.inside.state _ _ c.board.inside.lag c.set_greatest.ensures c.board.inside.next c.board.invariant.next;
  time = greatest-time c.board.inside.state _ _ c.board.inside.lag c.set_greatest.ensures c.board.inside.now_ns c.board.invariant.time;
}

pub returns : goal.returns
returns c =
    closed-as c.board.inside.state _ _ c.board.inside.lag c.set_greatest.ensures c.board.inside.seal c.args.greatest_ns c.board.inside.shared
    c.board.inside.next.known c.args.board.now c.board.view_is (c.max.ensures ∙ ap (λ (n : ℕ). max n c.args.greatest_ns) c.greatest.ensures)
