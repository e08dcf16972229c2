use Rattle.std.proofs.lemmas.List.Elements.{All-append, All-same}
use Rattle.race_phase.specs.private.Feed.{HasRunOwn}
use Rattle.race_phase.proofs.team.work_in_turn.Goals as goal

pub returns : goal.returns
returns g c =
    All-same (HasRunOwn g.N.Name.state c.args.worker.now.deliveries.now) _ _ c.in-Ok-append.ensures.items
    (All-append (HasRunOwn g.N.Name.state c.args.worker.now.deliveries.now) c.in_ok-all.all.items c.in_ok-behind.behind.items
    c.in_ok-all.ensures c.in_ok-behind.ensures)
