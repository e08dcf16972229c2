use Rattle.std.proofs.Common.{◌≡◌, [], subst}
use Rattle.board_history.specs.History.{entries_of}
use Rattle.shared_board.specs.declared.known.PassKnown.{PassKnown}
use Rattle.shared_board.proofs.pass.Pass.number.Goals as goal

pub returns-clause-below : goal.returns-clause-below
returns-clause-below g c k most = subst (λ (p : PassKnown). entries_of k p.seen ≡ []) c.self.view_is (c.self.invariant.1.below k most)
