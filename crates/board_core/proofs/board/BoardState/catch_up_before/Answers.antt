use Rattle.std.proofs.Common.{◌∙◌}
use Rattle.board_core.proofs.Joins.{after_run-zero}
use Rattle.board_core.proofs.board.BoardState.catch_up_before.Goals as goal

pub returns-then-h-lag-clause-same : goal.returns-then-h-lag-clause-same
returns-then-h-lag-clause-same c = after_run-zero _ ∙ c.catch_up.ensures.state
