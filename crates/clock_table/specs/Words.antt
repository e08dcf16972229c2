-- The words of a table: a front word, a clamp word, and five words for each page.
use Rattle.std.specs.Prelude.{ℕ, suc, ◌+◌, ◌*◌, List, [], slice_index}
use Rattle.pvclock_page.specs.declared.page.Page.{Page}
use Rattle.pvclock_page.specs.Words.{words_of}
use Rattle.atomic_table.specs.Seated.{TableId}

-- They begin at places so far apart, so that no two of them are in one line of a cache (own).
abbrev pub apart : ℕ
apart = 16

-- where the front word, the clamp word and the first page are
abbrev pub front_at : ℕ
front_at = 0

abbrev pub clamp_at : ℕ
clamp_at = apart

abbrev pub pages_at : ℕ
pages_at = 2 * apart

-- where the word k of the page c is
abbrev pub place : ℕ → ℕ → ℕ
place c k = pages_at + (apart * c + k)

-- how many words a table of so many pages has
abbrev pub words_for : ℕ → ℕ
words_for pages = pages_at + apart * pages

-- how many pages a table has for so many processors: after theirs comes the reference page
abbrev pub pages_for : ℕ → ℕ
pages_for cpus = cpus + 1

abbrev pub word_of : List ℕ → ℕ → ℕ → ℕ
word_of words c k = slice_index words (place c k)

-- the fields of a page by their number: the words of the page but its version
abbrev pub field_at : Page → ℕ → ℕ
field_at p k = slice_index (words_of p) (suc k)

-- the name of no table
abbrev pub no_table : TableId
no_table = record {
  words = 0;
  slots = 0;
  views_name = 0;
  atom = 0;
  block = 0;
  offset = 0;
  slot_names = [];
}
