use Rattle.std.proofs.Common.{ap, ◌∙◌}
use Rattle.board_types.specs.declared.parts.BoardParts.{BoardParts}
use Rattle.board_core.specs.Access.{after_run}
use Rattle.shared_board.proofs.lazy.LazyBox.cpus.Goals as goal

pub returns : goal.returns
unfolding after_run
returns c = c.cpus.ensures.value ∙ (ap (λ (b : BoardParts). b.cpus) c.deref.ensures ∙ ap (λ (b : BoardParts). b.cpus) c.self.view_is)
