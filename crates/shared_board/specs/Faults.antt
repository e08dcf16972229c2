-- Why a page wasn't read.
use Rattle.std.specs.Prelude.{◌≡◌, ℕ, ◌+◌, ◌≤◌, ◌^◌, List, [], ◌∷◌, true, Some}
use Rattle.host_counter.specs.declared.Anchor.{Anchor}
use Rattle.host_counter.specs.Time.{time_fault}
use Rattle.host_counter.specs.Time.{HasTime}
use Rattle.board_history.specs.declared.entry.Entry.{Entry}
use Rattle.board_history.specs.declared.entry.Entry.TheVariants.{Opened, Board, PageRead, HvRead, Clamp}
use Rattle.clock_table.specs.Steps.{loud}
use Rattle.shared_board.specs.declared.fault.LockedFault.{LockedFault}
use Rattle.shared_board.specs.declared.fault.LockedFault.TheVariants.{NoTime as LockedNoTime, Spent}
use Rattle.shared_board.specs.declared.fault.PageFault.{PageFault}
use Rattle.shared_board.specs.declared.fault.PageFault.TheVariants.{NoTime, Again}
use Rattle.shared_board.specs.declared.known.PassKnown.{PassKnown}
use Rattle.shared_board.specs.Passes.{Unanswered, Missed, Tried}

-- how many pages were read in a history
abbrev pub page_reads : List Entry → ℕ
page_reads [] = 0
page_reads (Opened s ∷ es) = page_reads es
page_reads (Board pass cpu h access reply ∷ es) = page_reads es
page_reads (PageRead pass cpu h page locked ∷ es) = 1 + page_reads es
page_reads (HvRead pass h page locked ∷ es) = 1 + page_reads es
page_reads (Clamp pass cpu reading clock ∷ es) = page_reads es

-- a try: the count has no time, and the pass is as it was; or it met an update
abbrev pub IsPageFault : Anchor → ℕ → ℕ → PageFault → PassKnown → PassKnown → Type 0
IsPageFault anchor cpu h (NoTime fault) p q = (time_fault anchor h ≡ Some fault) × (q ≡ p)
IsPageFault anchor cpu h (Again first second) p q =
    HasTime anchor h × Missed cpu first second p q

-- the front word is 2^63 or more, which takes as many reads of pages
pub record IsFull (front : ℕ) (seen : List Entry) : Type 0 where
  pub value : front ≡ loud seen
  pub full : 2 ^ 63 ≤ front
  pub reads : 2 ^ 63 ≤ page_reads seen

-- a read under the lock
abbrev pub IsLockedFault : Anchor → ℕ → LockedFault → PassKnown → PassKnown → Type 0
IsLockedFault anchor h (LockedNoTime fault) p q = (time_fault anchor h ≡ Some fault) × (q ≡ p)
IsLockedFault anchor h (Spent front) p q =
    HasTime anchor h × Unanswered p q × (q.misses ≡ p.misses) × IsFull front q.seen

-- a read that tries once, and then under the lock
abbrev pub IsReadFault : Anchor → ℕ → ℕ → LockedFault → PassKnown → PassKnown → Type 0
IsReadFault anchor cpu h (LockedNoTime fault) p q = (time_fault anchor h ≡ Some fault) × (q ≡ p)
IsReadFault anchor cpu h (Spent front) p q =
    HasTime anchor h × Unanswered p q × Tried cpu true p q × IsFull front q.seen
