use Rattle.std.proofs.Common.{ap, ◌∙◌}
use Rattle.tick_policy.specs.declared.parts.TickParts.{TickParts}
use Rattle.tick_policy.proofs.Ticks.{policy-ticked_times}
use Rattle.local_apics.proofs.apics.LocalApics.tick.Goals as goal

pub put_line-requires-clause-policy : goal.put_line-requires-clause-policy
put_line-requires-clause-policy c =
    ap (λ (l : TickParts). l.policy) c.due.ensures
    ∙ policy-ticked_times c.args.ticks c.line-line.result
    ∙ ap (λ (l : TickParts). l.policy) c.line-line.ensures.value
    ∙ c.line-line.ensures.joined.policy c.args.cpu c.requires.place
