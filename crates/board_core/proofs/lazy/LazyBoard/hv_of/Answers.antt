use Rattle.std.proofs.Common.{◌≡◌, subst, OnOk, IfOk, IfErr, Some}
use Rattle.host_counter.specs.Time.{time_fault}
use Rattle.board_types.specs.declared.parts.BoardParts.{BoardParts}
use Rattle.board_core.specs.Access.{after_run}
use Rattle.board_core.specs.Hv.{hv_reply}
use Rattle.host_counter.specs.Time.{HasTime}
use Rattle.board_core.proofs.lazy.LazyBoard.hv_of.Goals as goal

pub returns-clause-ok : goal.returns-clause-ok
unfolding after_run
returns-clause-ok c = subst (λ (b : BoardParts). OnOk c.hv_of.result (HasTime b.anchor c.args.h)) c.self.view_is c.hv_of.ensures.ok

pub returns-clause-value : goal.returns-clause-value
unfolding after_run hv_reply
returns-clause-value c = subst (λ (b : BoardParts). IfOk c.hv_of.result (λ r. r ≡ hv_reply b c.args.h)) c.self.view_is c.hv_of.ensures.value

pub returns-clause-fault : goal.returns-clause-fault
unfolding after_run
returns-clause-fault c = subst (λ (b : BoardParts). IfErr c.hv_of.result (λ f. time_fault b.anchor c.args.h ≡ Some f)) c.self.view_is c.hv_of.ensures.fault
