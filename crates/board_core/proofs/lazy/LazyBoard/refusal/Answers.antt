use Rattle.std.proofs.Common.{◌<◌, ap, sym, subst, ◌∙◌}
use Rattle.std.specs.Prelude.{IsTrue, IsSome}
use Rattle.board_types.specs.Legal.{is_legal}
use Rattle.board_types.specs.declared.parts.BoardParts.{BoardParts}
use Rattle.board_core.specs.Access.{after_run}
use Rattle.board_core.specs.Refusals.{meters_of, refusal_of}
use Rattle.board_meters.specs.Meters.{refusal_in}
use Rattle.board_core.proofs.Joins.{refusal_of-after_run}
use Rattle.board_core.proofs.lazy.LazyBoard.refusal.Goals as goal

pub refusal-requires-clause-cpu : goal.refusal-requires-clause-cpu
unfolding after_run
refusal-requires-clause-cpu c = subst (λ (b : BoardParts). c.args.cpu < b.cpus) (sym c.self.view_is) c.requires.cpu

pub refusal-requires-clause-legal : goal.refusal-requires-clause-legal
unfolding after_run
refusal-requires-clause-legal c = subst (λ (b : BoardParts). IsTrue (is_legal b.cpus b.format c.args.a)) (sym c.self.view_is) c.requires.legal

pub refusal-requires-clause-refused : goal.refusal-requires-clause-refused
unfolding after_run refusal_in meters_of
refusal-requires-clause-refused c = subst (λ (b : BoardParts). IsSome (refusal_of b c.args.cpu c.args.h c.args.a)) (sym c.self.view_is) c.requires.refused

pub returns : goal.returns
returns c =
    ap (λ (b : BoardParts). refusal_of b c.args.cpu c.args.h c.args.a) (sym c.self.view_is)
    ∙ (refusal_of-after_run c.self.inside.board c.args.cpu c.self.inside.lag.host c.args.h c.args.a ∙ c.refusal.ensures)
