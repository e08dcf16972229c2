use Rattle.std.proofs.Common.{◌++◌}
use Rattle.trace_loop.proofs.Progresses.{limit_least}
use Rattle.trace_loop.proofs.lines.limit_met.Goals as goal

pub returns-then-kept-rest-le-LINE_MAX-clause-least : goal.returns-then-kept-rest-le-LINE_MAX-clause-least
returns-then-kept-rest-le-LINE_MAX-clause-least c = limit_least (c.args.kept.now ++ c.args.rest.now)
