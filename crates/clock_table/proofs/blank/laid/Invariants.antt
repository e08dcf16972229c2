use Rattle.std.proofs.Common.{◌≡◌, ◌*◌}
use Rattle.clock_table.specs.Words.{pages_for}
use Rattle.clock_table.specs.private.Laid.{IsLaidBelow}
use Rattle.clock_table.proofs.blank.laid.Given as goal

abbrev pub invariant-loop-page : goal.invariant-loop-page
invariant-loop-page l = record {
  pages : l.pages ≡ pages_for l.state.cpus;
  laid : IsLaidBelow (5 * l.page) l.state l.words.items;
}
