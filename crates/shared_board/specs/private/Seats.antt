-- The seats between two calls, and the way of the pen from one to another.
use Rattle.std.specs.Prelude.{◌≡◌, ◌⊎◌, ℕ, ◌<◌, ◌≤◌, ◌^◌, List, [], ◌∷◌, map, Some, None, Bool, true, false}
use mathlib.Core.List.{IsPrefix}
use Rattle.board_types.specs.declared.parts.BoardParts.{BoardParts}
use Rattle.board_types.specs.declared.reply.Refusal.{Refusal}
use Rattle.board_types.specs.declared.reply.Reply.{Reply}
use Rattle.board_core.specs.Refusals.{refusal_of}
use Rattle.board_core.specs.Access.{after_access}
use Rattle.board_core.specs.Pages.{with_greatest, answer_by}
use Rattle.board_history.specs.Machine.{machine_of}
use Rattle.board_history.specs.History.{IsAnswered, IsLegal, board_after, entries_of}
use Rattle.board_history.specs.declared.entry.Entry.{Entry}
use Rattle.board_history.specs.declared.entry.Entry.TheVariants.{PageRead, Clamp}
use Rattle.pvclock_page.specs.declared.page.ClockReply.{ClockReply}
use Rattle.pvclock_page.specs.declared.page.ClockReply.TheVariants.{
  Off as ClockOff,
  On as ClockOn,
}
use Rattle.pvclock_page.specs.declared.page.PageReply.{PageReply}
use Rattle.pvclock_page.specs.declared.page.PageReply.TheVariants.{Off as PageOff, On as PageOn}
use Rattle.pvclock_page.specs.declared.page.Page.{Page}
use Rattle.clock_table.specs.declared.call.Asked.{Asked}
use Rattle.clock_table.specs.declared.call.Call.{Call}
use Rattle.clock_table.specs.declared.view.View.{View}
use Rattle.clock_table.specs.declared.view.Ended.{Ended}
use Rattle.clock_table.specs.Steps.{GoesOnQuietly, Extends, loud, ended_with}
use Rattle.clock_table.specs.Calls.{entry_of}
use Rattle.shared_board.specs.declared.known.PassKnown.{PassKnown}
use Rattle.shared_board.specs.declared.read.Read.{Read}
use Rattle.shared_board.specs.Passes.{mine, floor, Made}
use Rattle.shared_board.specs.Reads.{page_entry}
use Rattle.std.specs.List.{last_or}

abbrev pub known : ℕ → View → PassKnown
known n v = record { number = n; seen = v.seen; misses = v.misses }

-- a pass between two calls
pub record IsAtRest (n : ℕ) (v : View) : Type 0 where
  pub number : v.number ≡ Some n
  pub pen : v.pen ≡ false
  pub hand : v.hand ≡ None
  pub meet : v.meet ≡ None
  pub ended : v.ended ≡ []
  pub legal : IsLegal v.seen

-- the writer's seat between two calls, with all m passes made
pub record IsWriter (m : ℕ) (v : View) : Type 0 where
  pub number : v.number ≡ None
  pub pen : v.pen ≡ true
  pub hand : v.hand ≡ None
  pub meet : v.meet ≡ None
  pub made : v.made ≡ m
  pub ended : v.ended ≡ []
  pub legal : IsLegal v.seen

-- what was seen has no number of a pass that isn't made
pub record IsBelow (m : ℕ) (v : View) : Type 0 where
  pub limit : v.limit ≡ Some m
  pub below : (k : ℕ) → m ≤ k → entries_of k v.seen ≡ []

-- two boards that differ at most in their greatest reading
abbrev pub AreAlike : BoardParts → BoardParts → Type 0
AreAlike b c = with_greatest b 0 ≡ with_greatest c 0

-- what lies under the lock while the seat v has the pen: a board that is alike to the one after what v has seen
pub record IsHeldBy (opening : BoardParts) (m : ℕ) (b : BoardParts) (v : View) : Type 0 where
  pub writer : IsWriter m v
  pub below : IsBelow m v
  pub alike : AreAlike b (board_after v.seen)
  pub machine : machine_of b ≡ machine_of opening

-- and the seat is in its place
abbrev pub IsHeld : BoardParts → ℕ → BoardParts → List View → Type 0
IsHeld opening m b vs = (v : View) × (vs ≡ v ∷ []) × IsHeldBy opening m b v

-- the pen has come from v to w, which is then w'
pub record PenMoved (v w w' : View) : Type 0 where
  pub pen : w'.pen ≡ true
  pub hand : w'.hand ≡ None
  pub meet : w'.meet ≡ None
  pub number : w'.number ≡ w.number
  pub limit : w'.limit ≡ w.limit
  pub made : w'.made ≡ v.made
  pub misses : w'.misses ≡ w.misses
  pub ended : w'.ended ≡ w.ended
  pub more : IsPrefix w.seen w'.seen
  pub quiet : GoesOnQuietly v.seen w'.seen
  pub mine : (n : ℕ) → w.number ≡ Some n → entries_of n w'.seen ≡ entries_of n w.seen
  pub either : (w'.seen ≡ w.seen) ⊎ (w'.seen ≡ v.seen)

-- a seat that holds the pen for the pass p, with no page open
pub record IsPenOf (p : ℕ) (v : View) : Type 0 where
  pub number : v.number ≡ Some p
  pub pen : v.pen ≡ true
  pub meet : v.meet ≡ None
  pub hand : v.hand ≡ None

-- the access was taken on d and answered with r, and b is d after it, but for the greatest reading
pub record IsApplied (b d : BoardParts) (a : Asked) (r : Reply) : Type 0 where
  pub answered : IsAnswered d a.cpu a.h a.access r
  pub after : AreAlike b (after_access d a.cpu a.h a.access)

-- the access was taken, and its entry made; or refused, and all is as it was
pub record HasActed (c : Call) (r : Reply) (b : BoardParts) (v w : View) : Type 0 where
  pub told : Extends (entry_of c r) v w
  pub alike : AreAlike b (board_after w.seen)

pub record HasRefused (a : Asked) (f : Refusal) (b b' : BoardParts) (v w : View) : Type 0 where
  pub refusal : refusal_of (board_after v.seen) a.cpu a.h a.access ≡ Some f
  pub seat : w ≡ v
  pub board : b' ≡ b

-- the front word leaves no room for a read, and the seat is as it was
pub record IsSpentAt (front : ℕ) (v w : View) : Type 0 where
  pub value : front ≡ loud v.seen
  pub full : 2 ^ 63 ≤ front
  pub seat : w ≡ v

-- the last entry of the pass is a read of this page
abbrev pub IsLastPage : Read → ℕ → Page → PassKnown → Type 0
IsLastPage what h page p =
    (locked : Bool) × (last_or None (mine p) ≡ Some (page_entry p.number what h page locked))

-- the last entry of the pass is a read of the page of cpu that was answered so
pub record IsLastRead (ratio cpu : ℕ) (reply : PageReply) (p : PassKnown) : Type 0 where
  pub h : ℕ
  pub locked : Bool
  pub page : Page
  pub last : last_or None (mine p) ≡ Some (PageRead p.number cpu h page locked)
  pub answer : reply ≡ answer_by ratio page h

-- the clamp after that read: nothing where the page is off, else one entry
abbrev pub HasClamped : ℕ → PageReply → ClockReply → PassKnown → PassKnown → Type 0
HasClamped cpu PageOff ClockOff p q = q ≡ p
HasClamped cpu (PageOn page reading) (ClockOn told clock) p q =
    (told ≡ reading) × Made p q (Clamp p.number cpu reading clock ∷ [])
    × (q.misses ≡ p.misses) × (floor p ≤ clock)
HasClamped cpu _ _ p q = ⊥

-- a pass that has ended in the writer's seat
abbrev pub ended_item : PassKnown → Ended
ended_item p = record { number = p.number; seen = p.seen; misses = p.misses }

-- the writer's seat, while passes join it
pub record IsJoining (m : ℕ) (ps : List PassKnown) (first : List Entry) (v : View) : Type 0 where
  pub number : v.number ≡ None
  pub pen : v.pen ≡ true
  pub hand : v.hand ≡ None
  pub meet : v.meet ≡ None
  pub made : v.made ≡ m
  pub ended : v.ended ≡ map ended_item ps
  pub once : (n : ℕ) → ended_with n v.ended ≤ 1
  pub below : (n : ℕ) → 0 < ended_with n v.ended → n < m
  pub quiet : GoesOnQuietly first v.seen
