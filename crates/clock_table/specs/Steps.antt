-- What each call makes of the view of its seat.
use Rattle.std.specs.Prelude.{
  ◌≡◌,
  ℕ,
  ◌+◌,
  ◌%◌,
  ◌<◌,
  ◌≤◌,
  ◌==◌,
  nat_le,
  if◌then◌else◌,
  Bool,
  true,
  false,
  ◌||◌,
  MatchBool,
  List,
  [],
  ◌∷◌,
  ◌++◌,
  length,
  slice_set,
  slice_index_or,
  Option,
  Some,
  None,
}
use mathlib.Core.List.{IsPrefix}
use Rattle.pvclock_page.specs.declared.page.Page.{Page}
use Rattle.pvclock_page.specs.Words.{page_of}
use Rattle.board_types.specs.declared.parts.BoardParts.{BoardParts}
use Rattle.board_history.specs.History.{IsLegal, entries_of, read_of}
use Rattle.board_history.specs.declared.entry.Entry.{Entry}
use Rattle.board_history.specs.declared.entry.Entry.TheVariants.{Opened, Board, PageRead, HvRead, Clamp}
use Rattle.clock_table.specs.declared.view.View.{View}
use Rattle.clock_table.specs.declared.view.Read.{Read}
use Rattle.clock_table.specs.declared.view.Hand.{Hand}
use Rattle.clock_table.specs.declared.view.Meet.{Meet}
use Rattle.clock_table.specs.declared.view.Ended.{Ended}

abbrev pub or_else : Option ℕ → ℕ → ℕ
or_else None d = d
or_else (Some x) d = x

-- the number of a seat that has one
abbrev pub number_in : View → ℕ
number_in v = or_else v.number 0

-- the view of the first seat of a table
abbrev pub first_view : BoardParts → View
first_view s = record {
  live = true;
  seen = Opened s ∷ [];
  number = None;
  pen = true;
  made = 0;
  limit = None;
  hand = None;
  read = None;
  misses = [];
  meet = None;
  ended = [];
}

-- the number of passes is named
abbrev pub named : ℕ → View → View
named n v = record v { limit = Some n; read = None }

-- no Board entry, and no read under the lock
abbrev pub IsQuietEntry : Entry → Type 0
IsQuietEntry (Opened s) = ⊥
IsQuietEntry (Board pass cpu h access reply) = ⊥
IsQuietEntry (PageRead pass cpu h page locked) = locked ≡ false
IsQuietEntry (HvRead pass h page locked) = locked ≡ false
IsQuietEntry (Clamp pass cpu reading clock) = Unit {0}

abbrev pub IsQuiet : List Entry → Type 0
IsQuiet [] = Unit {0}
IsQuiet (e ∷ es) = IsQuietEntry e × IsQuiet es

-- the second list begins with the first, and goes on quietly
abbrev pub GoesOnQuietly : List Entry → List Entry → Type 0
GoesOnQuietly xs ys = (between : List Entry) × (xs ++ between ≡ ys) × IsQuiet between

-- the entries that the front word counts: reads under the lock
abbrev pub weight : Bool → ℕ
weight true = 1
weight false = 0

abbrev pub loudness : Entry → ℕ
loudness (Opened s) = 0
loudness (Board pass cpu h access reply) = 0
loudness (PageRead pass cpu h page locked) = weight locked
loudness (HvRead pass h page locked) = weight locked
loudness (Clamp pass cpu reading clock) = 0

abbrev pub loud : List Entry → ℕ
loud [] = 0
loud (e ∷ es) = loudness e + loud es

-- what the history shows a seat that has seen v.seen, then what lies between, and then an entry
pub record Learnt (v : View) (between seen : List Entry) : Type 0 where
  pub legal : IsLegal seen
  pub own : (p : ℕ) → v.number ≡ Some p → entries_of p between ≡ []
  pub below : (m n : ℕ) → v.limit ≡ Some m → m ≤ n → entries_of n seen ≡ []

-- the seat has seen the history so far, and then this entry
abbrev pub heard : View → List Entry → Entry → View
heard v between e = record v { seen = (v.seen ++ between) ++ e ∷ []; read = None }

abbrev pub Hears : Entry → View → View → Type 0
Hears e v w = (between : List Entry) × (w ≡ heard v between e) × Learnt v between w.seen

-- the same by the seat that holds the pen: what lies between is quiet, and no page is open
abbrev pub told : View → List Entry → Entry → View
told v between e = record v {
  seen = (v.seen ++ between) ++ e ∷ [];
  hand = None;
  read = None;
}

abbrev pub Extends : Entry → View → View → Type 0
Extends e v w =
    (between : List Entry) × (w ≡ told v between e) × IsQuiet between × Learnt v between w.seen

-- no field of a page yet
abbrev pub no_fields : List (Option ℕ)
no_fields = None ∷ None ∷ None ∷ None ∷ []

-- a page is opened, and a field is put
abbrev pub begun : ℕ → View → View
begun c v = record v { hand = Some (record { cpu = c; put = no_fields }); read = None }

abbrev pub with_put : ℕ → ℕ → Option Hand → Option Hand
with_put k x None = None
with_put k x (Some h) = Some (record { cpu = h.cpu; put = slice_set h.put k (Some x) })

abbrev pub put_in : ℕ → ℕ → View → View
put_in k x v = record v { hand = with_put k x v.hand; read = None }

-- a read met an update
abbrev pub missed : ℕ → ℕ → ℕ → View → View
missed c first second v = record v {
  read = None;
  misses = v.misses ++ record { page = c; first = first; second = second } ∷ [];
}

-- the first load of a read: an odd version ends it at once
abbrev pub first_if : Bool → ℕ → ℕ → View → View
first_if true c n v = record v {
  read = Some (record { cpu = c; first = n; noted = no_fields });
}
first_if false c n v = missed c n n v

abbrev pub first_read : ℕ → ℕ → View → View
first_read c n v = first_if (n % 2 == 0) c n v

-- a field is noted
abbrev pub with_note : ℕ → ℕ → Option Read → Option Read
with_note k x None = None
with_note k x (Some r) =
    Some (record { cpu = r.cpu; first = r.first; noted = slice_set r.noted k (Some x) })

abbrev pub noted_in : ℕ → ℕ → View → View
noted_in k x v = record v { read = with_note k x v.read }

-- the page that was noted
abbrev pub note_at : Read → ℕ → ℕ
note_at r k = or_else (slice_index_or r.noted k None) 0

abbrev pub noted_page : Read → Page
noted_page r =
    page_of (r.first ∷ note_at r 0 ∷ note_at r 1 ∷ note_at r 2 ∷ note_at r 3 ∷ [])

-- the second load of a read found this version: the entry, or a miss
abbrev pub ReadEnds : ℕ → ℕ → Read → ℕ → View → View → Type 0
ReadEnds cpus h r found v w =
    MatchBool (found == r.first)
    (Hears (read_of cpus (number_in v) r.cpu h (noted_page r) false) v w)
    ((w ≡ missed r.cpu r.first found v) × (r.first < found))

-- a pass is split off
abbrev pub pass_left : View → View
pass_left v = record v { made = v.made + 1; read = None }

abbrev pub pass_right : View → View
pass_right v = record {
  live = true;
  seen = v.seen;
  number = Some v.made;
  pen = false;
  made = 0;
  limit = v.limit;
  hand = None;
  read = None;
  misses = [];
  meet = None;
  ended = [];
}

-- the pen is split off
abbrev pub pen_left : View → View
pen_left v = record v { pen = false; made = 0; read = None }

abbrev pub pen_right : View → View
pen_right v = record {
  live = true;
  seen = v.seen;
  number = None;
  pen = true;
  made = v.made;
  limit = v.limit;
  hand = None;
  read = None;
  misses = [];
  meet = None;
  ended = [];
}

-- a seat w joins the seat v: what both have seen, and the passes that ended with w
abbrev pub longer : List Entry → List Entry → List Entry
longer xs ys = if nat_le (length ys) (length xs) then xs else ys

abbrev pub ended_of : Option ℕ → View → List Ended
ended_of None w = []
ended_of (Some n) w = record { number = n; seen = w.seen; misses = w.misses } ∷ []

abbrev pub met : View → View → View
met v w = record {
  live = v.live;
  seen = longer v.seen w.seen;
  number = v.number;
  pen = v.pen || w.pen;
  made = if v.pen then v.made else w.made;
  limit = v.limit;
  hand = None;
  read = None;
  misses = v.misses;
  meet = Some (record {
    here = v.seen;
    there = w.seen;
    penned = if v.pen then v.seen else w.seen;
  });
  ended = v.ended ++ (w.ended ++ ended_of w.number w);
}

-- a meet is over, and what its end gives
abbrev pub parted : View → View
parted v = record v { meet = None; read = None }

-- what had been seen with the seat's number, and with the pen
abbrev pub here_of : Option Meet → List Entry → List Entry
here_of None seen = seen
here_of (Some m) seen = m.here

abbrev pub penned_of : Option Meet → List Entry → List Entry
penned_of None seen = seen
penned_of (Some m) seen = m.penned

abbrev pub MeetKept : Option Meet → List Entry → Type 0
MeetKept None seen = Unit {0}
MeetKept (Some m) seen = IsPrefix m.here seen × IsPrefix m.there seen × IsPrefix m.penned seen

-- how often a view has a number: as its own, or of a pass that ended in it
abbrev pub number_is : ℕ → Option ℕ → ℕ
number_is n None = 0
number_is n (Some m) = weight (m == n)

abbrev pub ended_with : ℕ → List Ended → ℕ
ended_with n [] = 0
ended_with n (x ∷ xs) = weight (x.number == n) + ended_with n xs

abbrev pub claims : ℕ → View → ℕ
claims n v = number_is n v.number + ended_with n v.ended

pub record MeetTold (v : View) (found : ℕ) : Type 0 where
  pub meet : MeetKept v.meet v.seen
  pub pen : v.pen ≡ true → GoesOnQuietly (penned_of v.meet v.seen) v.seen
  pub mine : (n : ℕ) → v.number ≡ Some n
      → entries_of n v.seen ≡ entries_of n (here_of v.meet v.seen)
  pub front : v.pen ≡ true → found ≡ loud v.seen
  pub once : (n : ℕ) → claims n v ≤ 1
  pub below : (n : ℕ) → v.pen ≡ true → 0 < claims n v → n < v.made
