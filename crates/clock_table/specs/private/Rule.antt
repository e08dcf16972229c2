-- The rule of the words: what is true between any two steps, whatever thread makes them.
use Rattle.std.specs.Prelude.{◌≡◌, ℕ, suc, ◌+◌, ◌%◌, ◌^◌, ◌<◌, ◌≤◌, ◌==◌, if◌then◌else◌, Bool, true, false, List, [], ◌∷◌, length, slice_index, slice_index_or, Option, Some, None}
use mathlib.Core.Option.{some}
use mathlib.Core.List.{IsPrefix}
use lib.ListN.{get_elem?}
use Rattle.atomic_table.specs.Table.{State}
use Rattle.pvclock_page.specs.declared.page.Page.{Page}
use Rattle.board_types.specs.declared.parts.BoardParts.{BoardParts}
use Rattle.board_history.specs.Machine.{machine_of, page_at}
use Rattle.board_history.specs.History.{board_after, version_after, LegalFrom, entries_of}
use Rattle.board_history.specs.private.Steady.{IsSteady}
use Rattle.board_history.specs.declared.entry.Entry.{Entry}
use Rattle.clock_table.specs.declared.view.View.{View}
use Rattle.clock_table.specs.declared.view.Read.{Read}
use Rattle.clock_table.specs.declared.view.Hand.{Hand}
use Rattle.clock_table.specs.declared.view.Miss.{Miss}
use Rattle.clock_table.specs.declared.view.Ended.{Ended}
use Rattle.clock_table.specs.Words.{front_at, clamp_at, word_of, field_at, pages_for, words_for}
use Rattle.clock_table.specs.Steps.{
  or_else,
  weight,
  loud,
  claims,
  here_of,
  penned_of,
  MeetKept,
  GoesOnQuietly,
}
use Rattle.board_history.specs.declared.entry.Entry.TheVariants.{Opened}

-- whether the page c is open, and the field k as its words have it: what was put, else the page's
abbrev pub is_open : Option Hand → ℕ → Bool
is_open None c = false
is_open (Some h) c = h.cpu == c

abbrev pub put_at : Option Hand → ℕ → Option ℕ
put_at None k = None
put_at (Some h) k = slice_index_or h.put k None

abbrev pub stored : Option Hand → ℕ → Page → ℕ → ℕ
stored hand c p k =
    if is_open hand c then or_else (put_at hand k) (field_at p k) else field_at p k

-- the version word is the page's version, one more while the page is open
pub record PageKept (words : List ℕ) (hand : Option Hand) (p : Page) (c : ℕ) : Type 0 where
  pub version : word_of words c 0 ≡ p.version + weight (is_open hand c)
  pub field : (k : ℕ) → k < 4 → word_of words c (suc k) ≡ stored hand c p k

-- a read that goes on: its first version is no older than what its seat had seen, the word hasn't
-- fallen since, and while it is the same the noted fields are those in the words
pub record ReadKept (words : List ℕ) (pages : ℕ) (seen : List Entry) (r : Read) : Type 0 where
  pub there : r.cpu < pages
  pub even : r.first % 2 ≡ 0
  pub least : version_after seen r.cpu ≤ r.first
  pub grown : r.first ≤ word_of words r.cpu 0
  pub same : word_of words r.cpu 0 ≡ r.first → (k x : ℕ) → k < 4
      → slice_index_or r.noted k None ≡ Some x → word_of words r.cpu (suc k) ≡ x

-- a view is in no read, or in one that goes on
abbrev pub ReadingKept : List ℕ → ℕ → List Entry → Option Read → Type 0
ReadingKept words pages seen None = Unit {0}
ReadingKept words pages seen (Some r) = ReadKept words pages seen r

-- the version of each page that was missed has come as far as the miss saw
abbrev pub MissesKept : List ℕ → ℕ → List Miss → Type 0
MissesKept words pages [] = Unit {0}
MissesKept words pages (x ∷ xs) =
    (x.page < pages) × (x.second ≤ word_of words x.page 0) × MissesKept words pages xs

-- the passes that ended in a view: each had seen all entries of its number, and no more than the
-- view has
abbrev pub EndedKept : List ℕ → ℕ → List Entry → List Entry → List Ended → Type 0
EndedKept words pages log seen [] = Unit {0}
EndedKept words pages log seen (x ∷ xs) =
    IsPrefix x.seen seen × (entries_of x.number log ≡ entries_of x.number x.seen)
    × MissesKept words pages x.misses × EndedKept words pages log seen xs

-- what the rule alone knows: the entries after Opened, the seat that holds the pen and what it has
-- open, the seat of each number, how many numbers were given, and how many may be
pub record Ghost : Type 0 where
  pub later : List Entry
  pub holder : ℕ
  pub hand : Option Hand
  pub owner : ℕ → ℕ
  pub made : ℕ
  pub limit : Option ℕ

abbrev pub log_in : BoardParts → Ghost → List Entry
log_in opening g = Opened opening ∷ g.later

-- A group of facts is a record without a name, so that it is the same for two views that agree in
-- what it reads.

-- what a view has seen: a prefix of the history, with all entries of its number
abbrev pub SeenKept : List Entry → View → Type 0
SeenKept log v = record {
  begins : IsPrefix v.seen log;
  mine : (n : ℕ) → v.number ≡ Some n → entries_of n log ≡ entries_of n (here_of v.meet v.seen);
  meet : MeetKept v.meet v.seen;
  opened : v.live ≡ true → 0 < length v.seen;
}

-- the numbers of a view are those of its seat
abbrev pub NumbersKept : Ghost → ℕ → View → Type 0
NumbersKept g by v = record {
  claimed : (n : ℕ) → 0 < claims n v → (g.owner n ≡ by) × (n < g.made);
  once : (n : ℕ) → claims n v ≤ 1;
}

-- a view that holds the pen: what the history has after what had been seen with it is quiet
abbrev pub PenKept : BoardParts → Ghost → ℕ → View → Type 0
PenKept opening g by v = record {
  holder : by ≡ g.holder;
  hand : v.hand ≡ g.hand;
  made : v.made ≡ g.made;
  quiet : GoesOnQuietly (penned_of v.meet v.seen) (log_in opening g);
}

-- what each view says is so
pub record Fits (opening : BoardParts) (words : List ℕ) (g : Ghost) (by : ℕ) (v : View) :
    Type 0 where
  pub seen : SeenKept (log_in opening g) v
  pub numbers : NumbersKept g by v
  pub pen : v.pen ≡ true → PenKept opening g by v
  pub read : ReadingKept words (pages_for opening.cpus) v.seen v.read
  pub misses : MissesKept words (pages_for opening.cpus) v.misses
  pub ended : EndedKept words (pages_for opening.cpus) (log_in opening g) v.seen v.ended
  pub limit : v.live ≡ true → v.limit ≡ g.limit

-- the history is legal
abbrev pub HistoryKept : BoardParts → List Entry → Type 0
HistoryKept opening later = record {
  legal : LegalFrom (Opened opening ∷ []) later;
  steady : IsSteady (board_after (Opened opening ∷ later));
  machine : machine_of (board_after (Opened opening ∷ later)) ≡ machine_of opening;
}

-- the front word counts the loud entries, and the clamp word is the greatest reading
pub record FrontKept (words : List ℕ) (log : List Entry) : Type 0 where
  pub front : slice_index words front_at ≡ loud log
  pub low : loud log < 2 ^ 63 + 1
  pub clamp : slice_index words clamp_at ≡ (board_after log).greatest

-- the words are those of the board after the history
abbrev pub WordsKept : BoardParts → List ℕ → Option Hand → List Entry → Type 0
WordsKept opening words hand log = record {
  wide : length words ≡ words_for (pages_for opening.cpus);
  front : FrontKept words log;
  pages : (c : ℕ) → c < pages_for opening.cpus
      → PageKept words hand (page_at (board_after log) c) c;
}

pub record Kept (opening : BoardParts) (s : State (Unit {0}) View) : Type 0 where
  pub g : Ghost
  pub history : HistoryKept opening g.later
  pub numbers : (n : ℕ) → g.made ≤ n → entries_of n (log_in opening g) ≡ []
  pub room : (m : ℕ) → g.limit ≡ Some m → g.made ≤ m
  pub words : WordsKept opening s.words g.hand (log_in opening g)
  pub each : (by : ℕ) (v : View) → get_elem? s.views by ≡ some v → Fits opening s.words g by v
  pub alone : g.limit ≡ None → (by : ℕ) (v : View) → get_elem? s.views by ≡ some v
      → v.live ≡ true → by ≡ g.holder
