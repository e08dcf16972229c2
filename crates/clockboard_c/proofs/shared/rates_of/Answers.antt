use Rattle.std.proofs.Common.{ap, subst, sym, ◌∙◌}
use Rattle.host_counter.specs.declared.Anchor.{Anchor}
use Rattle.clockboard_c.specs.Shared.{AreTimes, last_count}
use Rattle.clockboard_c.proofs.Counts.{times-are}
use Rattle.clockboard_c.proofs.shared.rates_of.Goals as goal

pub returns-clause-times : goal.returns-clause-times
returns-clause-times c =
    subst (λ (anchor : Anchor). AreTimes c.args.state.now.anchor anchor.start c.last_count.result) (sym c.anchor-anchor.ensures)
    (times-are _ _ c.last_count.result c.cpus-cpus.ensures.joined.rates.host c.cpus-cpus.ensures.joined.time
    (c.last_count.ensures ∙ ap (λ (anchor : Anchor). last_count anchor) c.anchor-anchor.ensures))
