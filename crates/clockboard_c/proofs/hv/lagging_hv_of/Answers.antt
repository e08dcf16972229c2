use Rattle.board_core.specs.Access.{after_run}
use Rattle.board_core.specs.Hv.{hv_reply}
use Rattle.clockboard_c.proofs.hv.lagging_hv_of.Goals as goal

pub returns-clause-ok : goal.returns-clause-ok
unfolding after_run
returns-clause-ok c = c.hv_of.ensures.ok

pub returns-clause-value : goal.returns-clause-value
unfolding after_run hv_reply
returns-clause-value c = c.hv_of.ensures.value

pub returns-clause-fault : goal.returns-clause-fault
unfolding after_run
returns-clause-fault c = c.hv_of.ensures.fault
