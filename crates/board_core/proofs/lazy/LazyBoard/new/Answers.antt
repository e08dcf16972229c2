use Rattle.board_core.proofs.Joins.{after_run-zero}
use Rattle.board_core.proofs.lazy.LazyBoard.new.Goals as goal

pub returns : goal.returns
returns c = after_run-zero c.args.board
