use Rattle.std.proofs.Common.{sym, ◌∙◌, arith}
use Rattle.board_core.proofs.Joins.{now-after_run}
use Rattle.board_core.proofs.board.BoardState.lagging_now.Goals as goal

pub returns-clause-value : goal.returns-clause-value
returns-clause-value c =
    c.time_by.ensures.value
    ∙ sym (now-after_run c.args.self.now c.args.lag.now.host 0 (omega (arith, c.joined.ensures.rates.host.slow)))
