use Rattle.std.proofs.Common.{ap, subst, ◌∙◌, arith}
use Rattle.board_types.specs.declared.parts.BoardParts.{BoardParts}
use Rattle.board_core.specs.Time.{time_of_access}
use Rattle.host_counter.specs.Time.{HasTime}
use Rattle.board_core.specs.View.{board_parts_of}
use Rattle.board_core.proofs.Joined.{early}
use Rattle.board_core.proofs.board.BoardState.time_to.Goals as goal

pub returns-then-h-self-clause-ok : goal.returns-then-h-self-clause-ok
returns-then-h-self-clause-ok c =
    subst (λ (b : BoardParts). HasTime b.anchor c.args.h) c.self.view_is
    (early (board_parts_of c.self.inside) c.args.h (omega arith) c.self.invariant.joined.time c.if-self-h.true c.if-h-self.true).0

pub returns-then-h-self-clause-time : goal.returns-then-h-self-clause-time
returns-then-h-self-clause-time c =
    c.self.invariant.time
    ∙ (early (board_parts_of c.self.inside) c.args.h (omega arith) c.self.invariant.joined.time c.if-self-h.true c.if-h-self.true).1
    ∙ ap (λ (b : BoardParts). time_of_access b c.args.h) c.self.view_is
