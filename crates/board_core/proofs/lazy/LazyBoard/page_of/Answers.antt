use Rattle.std.proofs.Common.{◌<◌, sym, subst}
use Rattle.board_types.specs.declared.parts.BoardParts.{BoardParts}
use Rattle.board_core.specs.Access.{after_run}
use Rattle.board_core.specs.Pages.{page_reply}
use Rattle.board_core.specs.Outcome.{IsPageRead}
use Rattle.board_core.proofs.lazy.LazyBoard.page_of.Goals as goal

pub page_of-requires : goal.page_of-requires
unfolding after_run
page_of-requires c = subst (λ (b : BoardParts). c.args.cpu < b.cpus) (sym c.self.view_is) c.requires

pub returns : goal.returns
unfolding after_run page_reply
returns c = subst (λ (b : BoardParts). IsPageRead b c.args.cpu c.args.h c.page_of.result) c.self.view_is (record {
  ok = c.page_of.ensures.ok;
  value = c.page_of.ensures.value;
  fault = c.page_of.ensures.fault;
})
