use Rattle.std.proofs.Common.{refl, ◌∙◌}
use Rattle.board_core.proofs.Joins.{after_run-zero}
use Rattle.board_core.proofs.lazy.LazyBoard.state_mut.Goals as goal

pub returns : goal.returns
returns c = ((refl, after_run-zero), record { writes_back = tt; value = c.catch_up.ensures.state ∙ c.self.view_is })
