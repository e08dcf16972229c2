use Rattle.std.proofs.Common.{◌≡◌, ◌≤◌, ◌<◌, ◌+◌, ℕ, length, get_or}
use Rattle.std.specs.Slots.{slots_items}
use Rattle.pvclock_page.specs.Words.{page_of}
use Rattle.clock_table.specs.Words.{words_for}
use Rattle.clock_table.specs.Ends.{no_page}
use Rattle.clock_table.specs.private.Laid.{words_at}
use Rattle.clock_table.proofs.closed.pages_of.Given as goal

abbrev pub invariant-loop-page : goal.invariant-loop-page
invariant-loop-page l = record {
  long : length l.pages ≡ 65;
  done : (k : ℕ) → words_for (k + 1) ≤ l.count → k < l.page → get_or l.pages k no_page ≡ page_of (words_at (slots_items l.words.words) k);
  rest : (k : ℕ) → l.count < words_for (k + 1) → get_or l.pages k no_page ≡ no_page;
}
