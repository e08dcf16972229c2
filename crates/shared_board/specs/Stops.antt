-- The passes of a new board, and of one that was stopped.
use Rattle.std.specs.Prelude.{◌≡◌, ℕ, zero, suc, ◌≤◌, List, [], ◌∷◌, ◌++◌}
use mathlib.Core.List.{IsPrefix}
use Rattle.board_types.specs.declared.parts.BoardParts.{BoardParts}
use Rattle.board_history.specs.History.{board_after, entries_of, IsLegal, Opens}
use Rattle.board_history.specs.declared.entry.Entry.{Entry}
use Rattle.clock_table.specs.Ends.{MissesTold}
use Rattle.shared_board.specs.declared.known.PassKnown.{PassKnown}
use Rattle.shared_board.specs.Passes.{mine}
use Rattle.board_history.specs.declared.entry.Entry.TheVariants.{Opened}

-- the passes of a new board: numbers from 0, Opened alone seen
abbrev pub newcomers : BoardParts → ℕ → List PassKnown
newcomers s zero = []
newcomers s (suc n) =
    newcomers s n ++ record { number = n; seen = Opened s ∷ []; misses = [] } ∷ []

-- each pass had seen a prefix of the history, with all entries of its number, and the version of
-- each page that it missed has come as far as the second that it saw
abbrev pub PassesTold : List Entry → List PassKnown → Type 0
PassesTold h [] = Unit {0}
PassesTold h (p ∷ ps) =
    IsPrefix p.seen h × (entries_of p.number h ≡ mine p) × MissesTold h p.misses × PassesTold h ps

-- there is one legal history, which opens with the opening state, leaves this one, has all that the
-- passes had seen and made, and nothing else: no number from m, the passes made, on
abbrev pub StopTold : BoardParts → ℕ → BoardParts → List PassKnown → Type 0
StopTold opening m state ps =
    (h : List Entry) × IsLegal h × Opens opening h × (state ≡ board_after h) × PassesTold h ps
    × ((n : ℕ) → m ≤ n → entries_of n h ≡ [])
