-- What a pass knows, and how a call changes it.
use Rattle.std.specs.Prelude.{
  ◌≡◌,
  ◌⊎◌,
  ℕ,
  ◌%◌,
  ◌<◌,
  ◌≤◌,
  List,
  [],
  ◌∷◌,
  ◌++◌,
  Bool,
  true,
  false,
  Some,
}
use mathlib.Core.List.{IsPrefix}
use Rattle.board_types.specs.declared.access.Access.{Access}
use Rattle.board_types.specs.declared.reply.Refusal.{Refusal}
use Rattle.board_core.specs.Refusals.{refusal_of}
use Rattle.board_history.specs.History.{
  board_after,
  floor_after,
  version_after,
  entries_of,
  IsLegal,
}
use Rattle.board_history.specs.declared.entry.Entry.{Entry}
use Rattle.clock_table.specs.declared.view.Miss.{Miss}
use Rattle.shared_board.specs.declared.known.PassKnown.{PassKnown}

-- the entries that the pass made, in order
abbrev pub mine : PassKnown → List Entry
mine p = entries_of p.number p.seen

-- the greatest clock that it has seen
abbrev pub floor : PassKnown → ℕ
floor p = floor_after p.seen

-- the call made these entries, after all that the pass had seen and made
pub record Made (p q : PassKnown) (es : List Entry) : Type 0 where
  pub number : q.number ≡ p.number
  pub more : IsPrefix p.seen q.seen
  pub legal : IsLegal q.seen
  pub mine : mine q ≡ mine p ++ es

-- the call made one entry, and the pass has seen all that is before it
pub record Answered (p q : PassKnown) (e : Entry) : Type 0 where
  pub number : q.number ≡ p.number
  pub misses : q.misses ≡ p.misses
  pub seen : (between : List Entry) × (q.seen ≡ (p.seen ++ between) ++ e ∷ [])
  pub legal : IsLegal q.seen
  pub mine : mine q ≡ mine p ++ e ∷ []

-- the call made no entry; the pass may have seen more
pub record Unanswered (p q : PassKnown) : Type 0 where
  pub number : q.number ≡ p.number
  pub more : IsPrefix p.seen q.seen
  pub legal : IsLegal q.seen
  pub mine : mine q ≡ mine p

-- the board after what the pass has then seen refuses the access
pub record Refused (cpu h : ℕ) (a : Access) (f : Refusal) (p q : PassKnown) : Type 0 where
  pub unanswered : Unanswered p q
  pub misses : q.misses ≡ p.misses
  pub refusal : refusal_of (board_after q.seen) cpu h a ≡ Some f

-- a read that met an update: what its two loads of the version gave
abbrev pub miss : ℕ → ℕ → ℕ → Miss
miss cpu first second = record { page = cpu; first = first; second = second }

-- the two loads met an update: an odd first version is given twice; else the second one is later
abbrev pub IsUpdate : ℕ → ℕ → Type 0
IsUpdate first second = ((first % 2 ≡ 1) × (second ≡ first)) ⊎ (first < second)

-- a read met an update, whose first version is no older than what the pass had seen
pub record Missed (cpu first second : ℕ) (p q : PassKnown) : Type 0 where
  pub unanswered : Unanswered p q
  pub misses : q.misses ≡ p.misses ++ miss cpu first second ∷ []
  pub least : version_after p.seen cpu ≤ first
  pub update : IsUpdate first second

-- a call that tries once: it takes the lock exactly where the try met an update, which is its one
-- miss
abbrev pub Tried : ℕ → Bool → PassKnown → PassKnown → Type 0
Tried cpu false p q = q.misses ≡ p.misses
Tried cpu true p q =
    (first : ℕ) × (second : ℕ) × (q.misses ≡ p.misses ++ miss cpu first second ∷ [])
    × (version_after p.seen cpu ≤ first) × IsUpdate first second
