use Rattle.std.proofs.Common.{sym, subst}
use Rattle.trace_runner.specs.Check.{IsCheckReady}
use Rattle.trace_runner.proofs.CheckReady.{check_start}
use Rattle.trace_runner.proofs.race.read.Goals as goal

pub answer_lines-ended-requires : goal.answer_lines-ended-requires
answer_lines-ended-requires g c = subst (IsCheckReady 1) (sym c.new-check.ensures) (check_start c.args.shows_state)
