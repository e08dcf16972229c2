use Rattle.std.proofs.Common.{[], All, length, sym, subst, rules}
use Rattle.std.proofs.lemmas.List.Elements.{All-nil, All-push, All-same}
use Rattle.std.proofs.lemmas.Iterator.Consumers.{YieldsList-turn}
use Rattle.std.proofs.lemmas.Iterator.Adapters.{YieldsList-from_vec}
use Rattle.race_phase.specs.private.Feed.{AreFresh, IsFresh}
use Rattle.race_phase.proofs.team.teams_of.Goals as goal
use Rattle.race_phase.proofs.team.teams_of.Goals.{then-leads+then-is_led+in_ok-add_team, else-leads}

pub loop-pass-preserved : goal.loop-pass-preserved
loop-pass-preserved g c =
    let st = g.N.Name.state in
    let pass = c.in-Some.pass in
    let turn = YieldsList-turn (YieldsList-from_vec {s = c.into_iter-pass-iterator.result} c.args.passes.items (search rules) (search rules))
    c.loop-pass.yielded c.loop-pass.pass-iterator c.loop-pass.yielded_by c.next.result c.next.new.self pass c.in-Some.is c.next.ensures.steps in
    let fresh : IsFresh st pass = subst (IsFresh st) (sym turn.1) (c.requires.fresh (length c.loop-pass.yielded) pass turn.0) in
    let before : All (λ t. AreFresh st t.passes.items) c.if-leads.teams.items × AreFresh st c.if-leads.team.items =
    elim c.if-leads.branch [
      | then-leads+then-is_led+in_ok-add_team w ↦ (
        subst (λ z. All (λ t. AreFresh st t.passes.items) z.items) (sym w.teams-is) w.in_ok-add_team.ensures,
        subst (λ z. AreFresh st z.items) (sym w.team-is) (All-same (IsFresh st) _ [] w.new-team-then-is_led.ensures.items (All-nil (IsFresh st))),
      )
      | else-leads w ↦ (
        subst (λ z. All (λ t. AreFresh st t.passes.items) z.items) (sym w.teams-is) c.loop-pass.invariant.teams,
        subst (λ z. AreFresh st z.items) (sym w.team-is) c.loop-pass.invariant.team,
      )
    ] in record {
      teams = before.0;
      team = All-same (IsFresh st) _ _ c.in-Ok.ensures.items (All-push (IsFresh st) c.if-leads.team.items pass before.1 fresh);
    }
