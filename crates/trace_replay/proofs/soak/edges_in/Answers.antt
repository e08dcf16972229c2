use Rattle.std.proofs.Common.{ℕ, eqb, rules, tests}
use Rattle.std.proofs.lemmas.Iterator.Consumers.{
  YieldsList-at,
  YieldsList-from_filter,
  count_from_yields_List,
}
use Rattle.std.proofs.lemmas.Iterator.Splits.{YieldsList-from_slice_split}
use Rattle.trace_replay.specs.Soak.{is_edge, edges_in}
use Rattle.trace_replay.proofs.soak.edges_in.Goals as goal

pub returns : goal.returns
unfolding edges_in
returns c =
    count_from_yields_List c.filter.result c.count.result c.count.ensures.ran
    (YieldsList-from_filter _ is_edge
    (YieldsList-at c.filter.ensures.source
    (YieldsList-from_slice_split _ (λ (b : ℕ). eqb b 10) c.args.text.now c.split.ensures.rest c.split.ensures.done c.split.ensures.closure
    (λ x b q k. search (rules, tests))))
    c.filter.ensures.closure (λ x b q k. search (rules, tests)))
