-- What a read is told: of a page, of the clock by it, or of the reference page.
use Rattle.std.specs.Prelude.{◌≡◌, ℕ, ◌<◌, ◌≤◌, ◌^◌, List, [], ◌∷◌, ◌++◌, Bool, true, false, IsTrue, Result, IfOk, IfErr, OnOk}
use mathlib.Core.List.{IsPrefix}
use Rattle.pvclock_page.specs.declared.page.Page.{Page}
use Rattle.pvclock_page.specs.declared.page.ClockReply.TheVariants.{Off, On}
use Rattle.hv_page.specs.Words.{of_page}
use Rattle.board_types.specs.declared.parts.BoardParts.{BoardParts}
use Rattle.board_types.specs.declared.setup.TheConstants.{HV_FORMAT}
use Rattle.host_counter.specs.Time.{HasTime}
use Rattle.board_core.specs.Pages.{reading_by, answer_by}
use Rattle.board_core.specs.Hv.{hv_answer_by}
use Rattle.board_history.specs.Machine.{ratio_in}
use Rattle.board_history.specs.History.{version_after}
use Rattle.board_history.specs.declared.entry.Entry.{Entry}
use Rattle.board_history.specs.declared.entry.Entry.TheVariants.{PageRead, HvRead, Clamp}
use Rattle.clock_table.specs.Steps.{loud}
use Rattle.shared_board.specs.declared.known.PassKnown.{PassKnown}
use Rattle.shared_board.specs.declared.read.Read.{Read}
use Rattle.shared_board.specs.declared.read.Read.TheVariants.{Page as OfPage, Clock as OfClock, Hv as OfHv}
use Rattle.shared_board.specs.declared.read.ReadReply.{ReadReply}
use Rattle.shared_board.specs.declared.read.ReadReply.TheVariants.{Page as PageIs, Clock as ClockIs, Hv as HvIs}
use Rattle.shared_board.specs.Passes.{Made, Tried, floor}

-- the place of the page in the table: the reference page comes after those of the processors
abbrev pub place_in : ℕ → Read → ℕ
place_in cpus (OfPage cpu) = cpu
place_in cpus (OfClock cpu) = cpu
place_in cpus OfHv = cpus

-- a board that opened with s has the page
abbrev pub MayRead : BoardParts → Read → Type 0
MayRead s (OfPage cpu) = cpu < s.cpus
MayRead s (OfClock cpu) = cpu < s.cpus
MayRead s OfHv = HV_FORMAT ≤ s.format

-- the entry of the page that was read
abbrev pub page_entry : ℕ → Read → ℕ → Page → Bool → Entry
page_entry n (OfPage cpu) h page locked = PageRead n cpu h page locked
page_entry n (OfClock cpu) h page locked = PageRead n cpu h page locked
page_entry n OfHv h page locked = HvRead n h (of_page page) locked

-- the entries after it: the clamp, where the clock is read by a page that is enabled
abbrev pub clamp_entries : ℕ → Read → ReadReply → List Entry
clamp_entries n (OfClock cpu) (ClockIs (On reading clock)) = Clamp n cpu reading clock ∷ []
clamp_entries n _ reply = []

-- the answer is that of this page; no clock that the pass has seen is above a clock
abbrev pub IsAnswerBy : BoardParts → Read → ℕ → Page → ReadReply → PassKnown → Type 0
IsAnswerBy s (OfPage cpu) h page (PageIs reply) p = reply ≡ answer_by (ratio_in s) page h
IsAnswerBy s (OfClock cpu) h page (ClockIs Off) p = page.enabled ≡ false
IsAnswerBy s (OfClock cpu) h page (ClockIs (On reading clock)) p =
    IsTrue page.enabled × (reading ≡ reading_by (ratio_in s) page h)
    × (floor p ≤ clock)
IsAnswerBy s OfHv h page (HvIs reply) p = reply ≡ hv_answer_by (ratio_in s) (of_page page) h
IsAnswerBy s _ h page _ p = ⊥

-- the front word was below 2^63 where the entry came
abbrev pub HadRoom : Entry → List Entry → Type 0
HadRoom e seen =
    (before : List Entry) × IsPrefix (before ++ e ∷ []) seen × (loud before < 2 ^ 63)

-- this was read at count h on a board that opened with s, with the lock or without it: the answer is
-- that of one page, which was the board's at the call's place of the history and is no older than
-- what the pass had seen; under the lock the front word left room
pub record WasRead (s : BoardParts) (what : Read) (h : ℕ) (locked : Bool) (reply : ReadReply)
    (p q : PassKnown) : Type 0 where
  pub page : Page
  pub answer : IsAnswerBy s what h page reply p
  pub made : Made p q
      (page_entry p.number what h page locked ∷ clamp_entries p.number what reply)
  pub least : version_after p.seen (place_in s.cpus what) ≤ page.version
  pub room : locked ≡ true → HadRoom (page_entry p.number what h page true) q.seen

-- without the lock, no miss
pub record HasTried (s : BoardParts) (what : Read) (h : ℕ) (reply : ReadReply) (p q : PassKnown) :
    Type 0 where
  pub read : WasRead s what h false reply p q
  pub misses : q.misses ≡ p.misses

-- tried once, and read under the lock exactly where that met an update
pub record HasRead (s : BoardParts) (what : Read) (h : ℕ) (reply : ReadReply) (p q : PassKnown) :
    Type 0 where
  pub locked : Bool
  pub read : WasRead s what h locked reply p q
  pub tried : Tried (place_in s.cpus what) locked p q

-- a read at count h of a board that opened with s: the count has a time, and `answer` says what was
-- answered; or `fault` says why nothing was
pub record ReadTold {T E : Type 0} (s : BoardParts) (h : ℕ) (result : Result T E)
    (answer : T → PassKnown → PassKnown → Type 0) (fault : E → PassKnown → PassKnown → Type 0)
    (p q : PassKnown) : Type 0 where
  pub time : OnOk result (HasTime s.anchor h)
  pub ok : IfOk result (λ t. answer t p q)
  pub err : IfErr result (λ f. fault f p q)
