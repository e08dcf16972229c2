use Rattle.std.proofs.Common.{◌∙◌, ◌<◌, length, sym, subst, IfOk, map-id, arith, rules}
use Rattle.std.proofs.lemmas.Bool.Decides.{nat_tests}
use Rattle.std.proofs.lemmas.Iterator.Consumers.{YieldsList-end}
use Rattle.std.proofs.lemmas.Iterator.Adapters.{YieldsList-from_vec}
use Rattle.race_phase.specs.private.Feed.{AllRan, HaveRun}
use Rattle.race_phase.proofs.Gathered.{all_front, all_last}
use Rattle.race_phase.proofs.phase.gather.Goals as goal

pub loop-result-preserved : goal.loop-result-preserved
loop-result-preserved g c = λ ds all.
    let st = g.N.Name.state in
    let ys = c.loop-result.yielded in
    let x = c.in-Some.result in
    let before = all_front (λ r. IfOk r (λ ws. HaveRun st ds ws.items)) ys x all in
    let last = all_last (λ r. IfOk r (λ ws. HaveRun st ds ws.items)) ys x all in
    c.in_ok-add_all.ensures ds (subst (λ r. IfOk r (λ ws. HaveRun st ds ws.items)) c.in_ok-team.was last) (c.loop-result.invariant ds before)

pub returns-clause-all : goal.returns-clause-all
returns-clause-all g c = λ ds all.
    let st = g.N.Name.state in
    let end = YieldsList-end (YieldsList-from_vec {s = c.into_iter-result-iterator.result} c.args.results.items (search rules) (search rules))
    c.loop-result.yielded c.loop-result.result-iterator c.loop-result.yielded_by c.next.result c.next.new.self c.in-None.is c.next.ensures.steps in
    let ran = subst (λ xs. AllRan xs st ds) (sym end.0 ∙ map-id c.loop-result.yielded) all in
    let some : 0 < length c.loop-result.gathered.passes.items =
    (let a = c.is_empty.ensures in let b = c.if-is_empty.false in let e = c.loop-result.gathered.passes.ok.0 in grind (arith, nat_tests)) in
    (c.loop-result.invariant ds ran).all some
