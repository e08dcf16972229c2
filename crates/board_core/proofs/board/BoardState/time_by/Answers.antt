use Rattle.std.proofs.Common.{ap, ◌∙◌, arith}
use Rattle.board_types.specs.declared.parts.BoardParts.{BoardParts}
use Rattle.board_core.specs.Time.{time_of_access}
use Rattle.board_core.specs.View.{board_parts_of}
use Rattle.board_core.proofs.Joins.{time-before}
use Rattle.board_core.proofs.board.BoardState.time_by.Goals as goal

pub returns-then-h-self-clause-value : goal.returns-then-h-self-clause-value
returns-then-h-self-clause-value c =
    c.self.invariant.time
    ∙ time-before (board_parts_of c.self.inside) c.args.h (omega (arith, c.self.invariant.joined.rates.host.slow)) c.if-h-self.true
    ∙ ap (λ (b : BoardParts). time_of_access b c.args.h) c.self.view_is
