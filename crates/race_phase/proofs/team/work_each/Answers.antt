use Rattle.std.proofs.Common.{ℕ, sym, subst}
use Rattle.std.proofs.lemmas.List.Elements.{All-push, All-same}
use Rattle.race_phase.specs.private.Feed.{HasRun, HasRunOwn}
use Rattle.race_phase.proofs.team.work_each.Goals as goal

pub loop-pass-preserved : goal.loop-pass-preserved
loop-pass-preserved g c =
    let st = g.N.Name.state in
    let ds = c.args.worker.now.deliveries.now in
    let w = c.in_ok-worked.worked in
    let own = subst (λ (n : ℕ). HasRun st ds w.taken.items w.end n w.pass w.text.items) (sym c.in_ok-worked.ensures.2.0) c.in_ok-worked.ensures in
    All-same (HasRunOwn st ds) _ _ c.in-Ok.ensures.items (All-push (HasRunOwn st ds) c.loop-pass.all.items w c.loop-pass.invariant own)
