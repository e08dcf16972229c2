use Rattle.std.proofs.Common.{◌<◌, sym, subst}
use Rattle.board_types.specs.declared.parts.BoardParts.{BoardParts}
use Rattle.board_core.specs.Access.{after_run}
use Rattle.board_core.specs.Lazy.{caught_up}
use Rattle.board_core.specs.Outcome.{IsClockRead}
use Rattle.board_core.proofs.lazy.LazyBoard.clock_of.Goals as goal

pub lagging_clock_of-requires-clause-cpu : goal.lagging_clock_of-requires-clause-cpu
unfolding after_run
lagging_clock_of-requires-clause-cpu c = subst (λ (b : BoardParts). c.args.cpu < b.cpus) (sym c.self.view_is) c.requires

pub returns : goal.returns
returns c =
    subst (λ (b : BoardParts). IsClockRead b c.args.cpu c.args.h c.lagging_clock_of.result (caught_up c.lagging_clock_of.new.self c.self.inside.lag))
    c.self.view_is c.lagging_clock_of.ensures.read
