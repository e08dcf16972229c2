-- What the calls of a table ask.
use Rattle.std.specs.Prelude.{◌≡◌, ℕ, ◌<◌, ◌≤◌, ◌^◌, length, slice_index_or, Some, None, true, List, [], ◌∷◌, ◌++◌}
use Rattle.std.specs.List.{last_or}
use Rattle.pvclock_page.specs.declared.page.Page.{Page}
use Rattle.board_history.specs.Machine.{ratio_in, page_at, page_published}
use Rattle.board_history.specs.History.{board_after, entries_of, May, pass_of, Reads}
use Rattle.board_types.specs.declared.parts.BoardParts.{BoardParts}
use Rattle.board_history.specs.declared.entry.Entry.{Entry}
use Rattle.board_history.specs.declared.entry.Entry.TheVariants.{Opened, Board, PageRead, HvRead, Clamp}
use Rattle.board_types.specs.declared.reply.Reply.{Reply}
use Rattle.clock_table.specs.declared.call.Call.{Call}
use Rattle.clock_table.specs.declared.view.View.{View}
use Rattle.clock_table.specs.declared.view.Read.{Read}
use Rattle.clock_table.specs.declared.view.Hand.{Hand}
use Rattle.clock_table.specs.declared.field.Field.{Field}
use Rattle.clock_table.specs.declared.field.Field.TheVariants.{Stamp, System, Scale, Offset}
use Rattle.clock_table.specs.Words.{field_at}
use Rattle.clock_table.specs.Steps.{loud, number_in}

abbrev pub field_number : Field → ℕ
field_number Stamp = 0
field_number System = 1
field_number Scale = 2
field_number Offset = 3

-- the entry of an access that was answered
abbrev pub entry_of : Call → Reply → Entry
entry_of c r = Board c.pass c.asked.cpu c.asked.h c.asked.access r

-- the seat has a number, and no open meet
pub record IsPass (v : View) : Type 0 where
  pub number : (p : ℕ) × (v.number ≡ Some p)
  pub meet : v.meet ≡ None

-- the same, and it holds the pen
pub record IsPen (v : View) : Type 0 where
  pub number : (p : ℕ) × (v.number ≡ Some p)
  pub meet : v.meet ≡ None
  pub pen : v.pen ≡ true

-- the entry has the seat's number, and may come after what the seat has seen
pub record IsNext (e : Entry) (v : View) : Type 0 where
  pub number : pass_of e ≡ v.number
  pub legal : May v.seen e

-- the entry is an access that publishes the page c of a table of n processors
abbrev pub IsPublishing : ℕ → ℕ → Entry → Type 0
IsPublishing n c (Opened s) = ⊥
IsPublishing n c (Board pass cpu h access reply) = page_published n cpu access ≡ Some c
IsPublishing n c (PageRead pass cpu h page locked) = ⊥
IsPublishing n c (HvRead pass h page locked) = ⊥
IsPublishing n c (Clamp pass cpu reading clock) = ⊥

-- the entry is an access that publishes no page
abbrev pub PublishesNone : ℕ → Entry → Type 0
PublishesNone n (Opened s) = ⊥
PublishesNone n (Board pass cpu h access reply) = page_published n cpu access ≡ None
PublishesNone n (PageRead pass cpu h page locked) = ⊥
PublishesNone n (HvRead pass h page locked) = ⊥
PublishesNone n (Clamp pass cpu reading clock) = ⊥

-- the entry is a read under the lock, which needs a front word below 2^63
abbrev pub IsBump : List Entry → Entry → Type 0
IsBump seen (Opened s) = ⊥
IsBump seen (Board pass cpu h access reply) = ⊥
IsBump seen (PageRead pass cpu h page locked) = (locked ≡ true) × (loud seen < 2 ^ 63)
IsBump seen (HvRead pass h page locked) = (locked ≡ true) × (loud seen < 2 ^ 63)
IsBump seen (Clamp pass cpu reading clock) = ⊥

-- the seat has the page open; the fields put are those of a page
abbrev pub HasOpen : ℕ → View → Type 0
HasOpen cpu v = (o : Hand) × (v.hand ≡ Some o) × (o.cpu ≡ cpu) × (length o.put ≡ 4)

abbrev pub AllPut : Hand → Page → Type 0
AllPut h p = (k : ℕ) → k < 4 → slice_index_or h.put k None ≡ Some (field_at p k)

abbrev pub HasPut : ℕ → Page → View → Type 0
HasPut cpu page v = (o : Hand) × (v.hand ≡ Some o) × (o.cpu ≡ cpu) × AllPut o page

-- the seat reads the page; all its fields are noted
abbrev pub IsReading : ℕ → View → Type 0
IsReading cpu v = (r : Read) × (v.read ≡ Some r) × (r.cpu ≡ cpu)

abbrev pub AllNoted : Read → Type 0
AllNoted r = (k : ℕ) → k < 4 → (x : ℕ) × (slice_index_or r.noted k None ≡ Some x)

abbrev pub HasNoted : ℕ → View → Type 0
HasNoted cpu v = (r : Read) × (v.read ≡ Some r) × (r.cpu ≡ cpu) × AllNoted r

-- an entry that the front word may make: the seat holds the pen, and nothing is open
pub record MayEnter (e : Entry) (v : View) : Type 0 where
  pub pen : IsPen v
  pub shut : v.hand ≡ None
  pub next : IsNext e v

-- an entry that may close the page c of a table of n processors, all of whose fields were put
pub record MayClose (n c : ℕ) (e : Entry) (v : View) : Type 0 where
  pub there : c ≤ n
  pub pen : IsPen v
  pub put : HasPut c (page_at (board_after (v.seen ++ e ∷ [])) c) v
  pub publishes : IsPublishing n c e
  pub next : IsNext e v

-- a read of the page c of a table of n processors may end: all fields were noted
pub record MayEnd (n c : ℕ) (v : View) : Type 0 where
  pub there : c ≤ n
  pub pass : IsPass v
  pub noted : HasNoted c v

-- a reading of cpu may be clamped, on a board that opened with s: the last entry of the seat's number is the read that
-- gave it
pub record MayRaise (s : BoardParts) (cpu reading : ℕ) (v : View) : Type 0 where
  pub pass : IsPass v
  pub reads : Reads (ratio_in s) (last_or None (entries_of (number_in v) v.seen)) cpu reading
