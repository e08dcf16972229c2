-- What each kind of step shows its seat, by the word that it steps on.
use Rattle.std.specs.Prelude.{◌≡◌, ℕ, suc, ◌<◌, ◌≤◌, nat_le, max, MatchBool, [], Some, None, false}
use Rattle.atomic_table.specs.Table.{Me, Step}
use Rattle.board_history.specs.History.{version_after}
use Rattle.board_history.specs.declared.entry.Entry.{Entry}
use Rattle.board_history.specs.declared.entry.Entry.TheVariants.{Clamp}
use Rattle.clock_table.specs.declared.view.View.{View}
use Rattle.clock_table.specs.declared.view.Read.{Read}
use Rattle.clock_table.specs.Words.{place}
use Rattle.clock_table.specs.Steps.{
  named,
  begun,
  put_in,
  first_read,
  noted_in,
  ReadEnds,
  number_in,
  Hears,
  Extends,
  parted,
  MeetTold,
}

-- no entry is asked for
abbrev pub no_entry : Entry
no_entry = Clamp 0 0 0 0

abbrev Sat : Type 0
Sat = Me (Unit {0}) View

abbrev At : Type 0
At = Step (Unit {0})

-- what no step of a seat changes
abbrev pub Stays : Sat → Sat → Type 0
Stays m m' = (m'.1 ≡ m.1) × (m'.0.live ≡ m.0.live) × (m'.0.limit ≡ m.0.limit)

-- the number of passes is named
abbrev pub Named : ℕ → At → Sat → ℕ → Sat → Type 0
Named p st m n m' = (m'.1 ≡ m.1) × (m'.0 ≡ named p m.0)

-- a page is opened, a field of it is put
abbrev pub Begun : At → Sat → ℕ → Sat → Type 0
Begun st m n m' = Stays m m' × ((c : ℕ) → st.word ≡ place c 0 → m'.0 ≡ begun c m.0)

abbrev pub PutIn : At → Sat → ℕ → Sat → Type 0
PutIn st m n m' =
    Stays m m' × ((c k : ℕ) → k < 4 → st.word ≡ place c (suc k) → m'.0 ≡ put_in k st.first m.0)

-- an entry is made by the seat that holds the pen
abbrev pub Finished : Entry → At → Sat → ℕ → Sat → Type 0
Finished e st m n m' = (m'.1 ≡ m.1) × Extends e m.0 m'.0

-- a version is loaded first, a field is loaded, the version is loaded again
abbrev pub FirstRead : At → Sat → ℕ → Sat → Type 0
FirstRead st m n m' =
    Stays m m' × ((c : ℕ) → st.word ≡ place c 0
    → (m'.0 ≡ first_read c n m.0) × (version_after m.0.seen c ≤ n))

abbrev pub FieldRead : At → Sat → ℕ → Sat → Type 0
FieldRead st m n m' =
    Stays m m' × ((c k : ℕ) → k < 4 → st.word ≡ place c (suc k) → m'.0 ≡ noted_in k n m.0)

abbrev pub SecondRead : ℕ → ℕ → At → Sat → ℕ → Sat → Type 0
SecondRead cpus h st m n m' =
    Stays m m' × ((r : Read) → m.0.read ≡ Some r → ReadEnds cpus h r n m.0 m'.0)

-- the clamp word is raised
abbrev pub Raised : ℕ → At → Sat → ℕ → Sat → Type 0
Raised cpu st m n m' =
    (m'.1 ≡ m.1) × Hears (Clamp (number_in m.0) cpu st.first (max st.first n)) m.0 m'.0

-- the clamp word is loaded: where it is no less than a reading, that is its clamp
abbrev pub Looked : ℕ → ℕ → At → Sat → ℕ → Sat → Type 0
Looked cpu x st m n m' =
    (m'.1 ≡ m.1) × MatchBool (nat_le x n) (Hears (Clamp (number_in m.0) cpu x n) m.0 m'.0)
    (m'.0 ≡ m.0)

-- a meet has ended
abbrev pub Parted : At → Sat → ℕ → Sat → Type 0
Parted st m n m' = (m'.1 ≡ m.1) × (m'.0 ≡ parted m.0) × MeetTold m.0 n

-- the view of a seat that has joined another
abbrev pub spent : View
spent = record {
  live = false;
  seen = [];
  number = None;
  pen = false;
  made = 0;
  limit = None;
  hand = None;
  read = None;
  misses = [];
  meet = None;
  ended = [];
}
