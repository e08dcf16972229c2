use Rattle.std.proofs.Common.{ap, sym, ◌∙◌}
use Rattle.board_core.specs.Apics.{after_look}
use Rattle.board_core.specs.Access.{after_act}
use Rattle.board_core.proofs.Looks.{look-kept}
use Rattle.board_core.proofs.board.BoardState.act.Goals as goal

pub returns-then-not-writes-clause-state : goal.returns-then-not-writes-clause-state
unfolding after_act
returns-then-not-writes-clause-state c =
    c.perform-value.ensures.state
    ∙ sym (look-kept c.args.self.now c.args.cpu c.args.h c.args.a (sym c.writes.ensures ∙ c.if-not-writes.true) (c.requires.looked c.if-looked.true))

pub returns-clause-state : goal.returns-clause-state
unfolding after_act
returns-clause-state c = c.look.ensures ∙ ap after_look c.perform-value.ensures.state
