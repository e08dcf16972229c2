use Rattle.std.proofs.Common.{◌∙◌}
use Rattle.board_core.proofs.Joins.{after_run-zero}
use Rattle.shared_board.proofs.lazy.LazyBox.new.Goals as goal

pub returns-in-Ok : goal.returns-in-Ok
returns-in-Ok c = after_run-zero c.in-Ok.board.value ∙ c.in-Ok.ensures.ok
