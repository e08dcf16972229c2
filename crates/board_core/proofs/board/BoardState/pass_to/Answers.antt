use Rattle.std.proofs.Common.{ap, sym, ◌∙◌, arith}
use Rattle.board_types.specs.declared.parts.BoardParts.{BoardParts}
use Rattle.board_core.specs.Access.{after_run}
use Rattle.board_core.specs.View.{board_parts_of}
use Rattle.board_core.proofs.Joins.{after_run-before}
use Rattle.board_core.proofs.board.BoardState.pass_to.Goals as goal

pub returns-else-h-self : goal.returns-else-h-self
returns-else-h-self c =
    let b : BoardParts = board_parts_of c.self.inside in
    sym (ap (λ (x : BoardParts). after_run x c.args.h) (sym c.self.view_is)
    ∙ after_run-before b c.args.h (omega (arith, c.self.invariant.joined.rates.host.slow)) c.if-h-self.false ∙ c.self.view_is)
