-- What the end of a table gives.
use Rattle.std.specs.Prelude.{◌≡◌, ℕ, ◌≤◌, List, [], ◌∷◌, length, None, true}
use mathlib.Core.List.{IsPrefix}
use Rattle.board_core.specs.Tsc.{no_processor}
use Rattle.board_core.specs.Pages.{page_in}
use Rattle.board_history.specs.History.{version_after, entries_of}
use Rattle.board_history.specs.declared.entry.Entry.{Entry}
use Rattle.pvclock_page.specs.declared.page.Page.{Page}
use Rattle.clock_table.specs.declared.view.View.{View}
use Rattle.clock_table.specs.declared.view.Miss.{Miss}
use Rattle.clock_table.specs.declared.view.Ended.{Ended}

-- what the place of a page that isn't there holds
abbrev pub no_page : Page
no_page = page_in no_processor

-- the pen is here, nothing is open, and all m passes have joined
pub record IsWhole (m : ℕ) (v : View) : Type 0 where
  pub pen : v.pen ≡ true
  pub hand : v.hand ≡ None
  pub meet : v.meet ≡ None
  pub number : v.number ≡ None
  pub made : v.made ≡ m
  pub all : length v.ended ≡ m

-- for each miss, the version of the page came as far as the second that was seen
abbrev pub MissesTold : List Entry → List Miss → Type 0
MissesTold h [] = Unit {0}
MissesTold h (x ∷ xs) = (x.second ≤ version_after h x.page) × MissesTold h xs

-- each pass had seen a prefix of the history, with all entries of its number
abbrev pub EndedTold : List Entry → List Ended → Type 0
EndedTold h [] = Unit {0}
EndedTold h (x ∷ xs) =
    IsPrefix x.seen h × (entries_of x.number h ≡ entries_of x.number x.seen)
    × MissesTold h x.misses × EndedTold h xs
