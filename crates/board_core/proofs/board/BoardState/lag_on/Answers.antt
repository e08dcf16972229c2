use Rattle.std.proofs.Common.{ap, subst, arith}
use Rattle.board_types.specs.declared.parts.BoardParts.{BoardParts}
use Rattle.board_core.specs.Conditions.{IsJoined}
use Rattle.board_core.proofs.Joins.{after_run-zero, after_run-before}
use Rattle.board_core.proofs.board.BoardState.lag_on.Goals as goal

pub returns-then-lag-gt0-clause-same : goal.returns-then-lag-gt0-clause-same
returns-then-lag-gt0-clause-same c = after_run-before _ _
    (omega (arith, (subst IsJoined c.self.view_is c.self.invariant.joined).rates.host.slow))
    (omega (arith, ap (λ (b : BoardParts). b.host) c.self.view_is))

pub returns-else-lag-gt0-clause-same : goal.returns-else-lag-gt0-clause-same
returns-else-lag-gt0-clause-same c = after_run-zero _

pub returns-else-lag-eq-STILL-clause-same : goal.returns-else-lag-eq-STILL-clause-same
returns-else-lag-eq-STILL-clause-same c = after_run-zero _
