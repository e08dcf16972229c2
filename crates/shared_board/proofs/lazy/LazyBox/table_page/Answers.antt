use Rattle.std.proofs.Common.{◌≤◌, ap, sym, ◌∙◌, subst}
use Rattle.board_types.specs.declared.parts.BoardParts.{BoardParts}
use Rattle.board_core.specs.Access.{after_run}
use Rattle.board_history.specs.Machine.{page_at}
use Rattle.shared_board.proofs.lazy.LazyBox.table_page.Goals as goal

pub table_page-requires : goal.table_page-requires
unfolding after_run
table_page-requires c =
    subst (λ (b : BoardParts). c.args.index ≤ b.cpus) (sym c.deref.ensures) (subst (λ (b : BoardParts). c.args.index ≤ b.cpus) (sym c.self.view_is) c.requires)

pub returns : goal.returns
unfolding after_run
returns c =
    c.table_page.ensures
    ∙ (ap (λ (b : BoardParts). page_at b c.args.index) c.deref.ensures ∙ ap (λ (b : BoardParts). page_at b c.args.index) c.self.view_is)
