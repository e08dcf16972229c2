use Rattle.std.proofs.Common.{ap, sym, subst, ◌∙◌}
use Rattle.board_types.specs.declared.parts.BoardParts.{BoardParts}
use Rattle.board_core.specs.Access.{after_run}
use Rattle.board_core.specs.Lazy.{IsLazy}
use Rattle.board_core.proofs.LazySteps.{IsLazy-caught, caught-again}
use Rattle.board_core.proofs.board.BoardState.catch_up.Goals as goal

pub returns-clause-same : goal.returns-clause-same
returns-clause-same c =
    ap (λ (b : BoardParts). after_run b c.args.lag.now.host) c.pass_to.ensures
    ∙ caught-again c.args.self.now c.args.lag.now.host c.joined.ensures ∙ sym c.pass_to.ensures

pub returns-clause-lazy : goal.returns-clause-lazy
returns-clause-lazy c = subst (λ (b : BoardParts). IsLazy b c.args.lag.now.host c.args.lag.now.horizon) (sym c.pass_to.ensures)
    (IsLazy-caught c.args.self.now c.args.lag.now.host c.args.lag.now.horizon c.joined.ensures c.requires)
