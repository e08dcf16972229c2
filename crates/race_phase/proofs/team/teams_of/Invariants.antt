use Rattle.std.proofs.Common.{All}
use Rattle.race_phase.specs.private.Feed.{AreFresh}
use Rattle.race_phase.proofs.team.teams_of.Given as goal

abbrev pub invariant-loop-pass : goal.invariant-loop-pass
invariant-loop-pass g l = record {
  teams : All (λ t. AreFresh g.N.Name.state t.passes.items) l.teams.items;
  team : AreFresh g.N.Name.state l.team.items;
}
