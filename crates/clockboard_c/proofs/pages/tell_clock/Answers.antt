use Rattle.board_core.specs.Access.{after_run}
use Rattle.clockboard_c.proofs.pages.tell_clock.Goals as goal

pub lagging_clock_of-requires-clause-cpu : goal.lagging_clock_of-requires-clause-cpu
unfolding after_run
lagging_clock_of-requires-clause-cpu c = c.requires.cpu
