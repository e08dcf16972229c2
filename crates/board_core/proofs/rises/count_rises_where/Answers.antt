use Rattle.std.proofs.Common.{sym}
use Rattle.board_core.proofs.Counted.{none_after}
use Rattle.board_core.proofs.rises.count_rises_where.Goals as goal

pub returns-else-came : goal.returns-else-came
returns-else-came c = sym (none_after c.args.format c.args.from c.args.edges.now c.args.rises.now (c.requires.none c.if-came.false))
