use Rattle.std.proofs.Common.{ℕ, List, [], sym, subst}
use Rattle.atomic_table.specs.Table.{opening}
use Rattle.clock_table.specs.Steps.{first_view}
use Rattle.clock_table.specs.private.Rule.{Kept}
use Rattle.clock_table.proofs.EndSteps.{opens, steady_of}
use Rattle.clock_table.proofs.blank.Blank.new.Goals as goal

pub of_words-requires : goal.of_words-requires
of_words-requires c =
    let s = c.args.state.now in
    let ws = c.in_ok-words.words.items in
    subst (λ (l : List ℕ). Kept s (opening l [] (first_view s))) (sym c.deref.ensures.value)
    (opens s ws (steady_of s c.joined.ensures c.processors-processors.ensures.places) c.in_ok-words.ensures)
