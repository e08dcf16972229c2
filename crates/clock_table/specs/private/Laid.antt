-- The words of a state, and those of a table at its end.
use Rattle.std.specs.Prelude.{◌≡◌, ℕ, ◌+◌, ◌*◌, ◌<◌, ◌≤◌, List, [], ◌∷◌, length, slice_index}
use Rattle.pvclock_page.specs.Words.{page_of, words_of}
use Rattle.board_types.specs.declared.parts.BoardParts.{BoardParts}
use Rattle.board_history.specs.Machine.{page_at}
use Rattle.board_history.specs.History.{Opens, board_after, IsLegal, entries_of}
use Rattle.clock_table.specs.declared.view.View.{View}
use Rattle.clock_table.specs.Words.{front_at, clamp_at, word_of, pages_for, words_for}
use Rattle.clock_table.specs.Steps.{loud}
use Rattle.clock_table.specs.Ends.{EndedTold}

-- the five words of a page
abbrev pub words_at : List ℕ → ℕ → List ℕ
words_at words c =
    word_of words c 0 ∷ word_of words c 1 ∷ word_of words c 2 ∷ word_of words c 3
    ∷ word_of words c 4 ∷ []

-- the words of a state, where the first n of its pages' words have been written, 5 a page
pub record IsLaidBelow (n : ℕ) (s : BoardParts) (words : List ℕ) : Type 0 where
  pub wide : length words ≡ words_for (pages_for s.cpus)
  pub front : slice_index words front_at ≡ 0
  pub clamp : slice_index words clamp_at ≡ s.greatest
  pub word : (c k : ℕ) → k < 5 → 5 * c + k < n
      → word_of words c k ≡ slice_index (words_of (page_at s c)) k

-- the seat has seen the whole history, and the words are those of the board after it
pub record Closing (opening : BoardParts) (v : View) (words : List ℕ) : Type 0 where
  pub legal : IsLegal v.seen
  pub opened : Opens opening v.seen
  pub front : slice_index words front_at ≡ loud v.seen
  pub greatest : slice_index words clamp_at ≡ (board_after v.seen).greatest
  pub page : (c : ℕ) → c < pages_for opening.cpus
      → page_of (words_at words c) ≡ page_at (board_after v.seen) c
  pub ended : EndedTold v.seen v.ended
  pub numbers : (n : ℕ) → v.made ≤ n → entries_of n v.seen ≡ []
