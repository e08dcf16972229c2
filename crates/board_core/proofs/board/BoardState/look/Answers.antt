use Rattle.std.proofs.Common.{refl, ap, sym, ◌∙◌}
use Rattle.local_apics.specs.declared.parts.ApicsParts.{ApicsParts}
use Rattle.local_apics.proofs.Below.{looked-none}
use Rattle.board_types.specs.declared.parts.BoardParts.{BoardParts}
use Rattle.board_core.specs.Time.{now_of}
use Rattle.board_core.specs.Apics.{apics_in, with_apics, tscs_by_time, after_look}
use Rattle.board_core.specs.View.{board_parts_of}
use Rattle.board_core.proofs.board.BoardState.look.Goals as goal

pub returns-else-has_deadlines : goal.returns-else-has_deadlines
unfolding after_look
returns-else-has_deadlines c =
    let b : BoardParts = board_parts_of c.self.inside in
    sym c.self.view_is
    ∙ ap (λ (a : ApicsParts). with_apics a b) (looked-none (λ k. tscs_by_time b k (now_of b)) (apics_in b) c.if-has_deadlines.ensures.joined
    (c.if-has_deadlines.ensures.none refl))
    ∙ ap after_look c.self.view_is
