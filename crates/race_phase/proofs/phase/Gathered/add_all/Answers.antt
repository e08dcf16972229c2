use Rattle.std.proofs.Common.{◌∙◌, sym, subst, map-id, rules}
use Rattle.std.proofs.lemmas.Iterator.Consumers.{YieldsList-end}
use Rattle.std.proofs.lemmas.Iterator.Adapters.{YieldsList-from_vec}
use Rattle.race_phase.specs.private.Feed.{HasRunOwn, HaveRun}
use Rattle.race_phase.proofs.Gathered.{all_front, all_last}
use Rattle.race_phase.proofs.phase.Gathered.add_all.Goals as goal

pub loop-worked-preserved : goal.loop-worked-preserved
loop-worked-preserved g c = λ ds all before.
    let ys = c.loop-worked.yielded in
    let x = c.in-Some.worked in
    c.in_ok-add.ensures ds (all_last (HasRunOwn g.N.Name.state ds) ys x all)
    (c.loop-worked.invariant ds (all_front (HasRunOwn g.N.Name.state ds) ys x all) before)

pub returns : goal.returns
returns g c = λ ds all before.
    let end = YieldsList-end (YieldsList-from_vec {s = c.into_iter-worked-iterator.result} c.args.team.items (search rules) (search rules))
    c.loop-worked.yielded c.loop-worked.worked-iterator c.loop-worked.yielded_by c.next.result c.next.new.self c.in-None.is c.next.ensures.steps in
    c.loop-worked.invariant ds (subst (HaveRun g.N.Name.state ds) (sym end.0 ∙ map-id c.loop-worked.yielded) all) before
