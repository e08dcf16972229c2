-- A read of a page of the table, whichever it is.
use Rattle.std.specs.Prelude.{◌≡◌, ℕ, ◌≤◌, [], ◌∷◌, Bool, true}
use Rattle.hv_page.specs.Words.{of_page}
use Rattle.pvclock_page.specs.declared.page.Page.{Page}
use Rattle.board_types.specs.declared.parts.BoardParts.{BoardParts}
use Rattle.board_core.specs.Pages.{answer_by}
use Rattle.board_core.specs.Hv.{hv_answer_by}
use Rattle.board_history.specs.Machine.{ratio_in}
use Rattle.board_history.specs.History.{version_after, read_of}
use Rattle.shared_board.specs.declared.known.PassKnown.{PassKnown}
use Rattle.shared_board.specs.declared.read.Read.{Read}
use Rattle.shared_board.specs.declared.read.Read.TheVariants.{Page as OfPage, Clock as OfClock, Hv as OfHv}
use Rattle.shared_board.specs.declared.read.ReadReply.{ReadReply}
use Rattle.shared_board.specs.declared.read.ReadReply.TheVariants.{Page as PageIs, Clock as ClockIs, Hv as HvIs}
use Rattle.shared_board.specs.Passes.{Made, Tried}
use Rattle.shared_board.specs.Reads.{HadRoom}
use Rattle.shared_board.specs.private.Seats.{HasClamped}

-- the page k was read at count h
pub record TableRead (s : BoardParts) (k h : ℕ) (locked : Bool) (page : Page) (p q : PassKnown) :
    Type 0 where
  pub made : Made p q (read_of s.cpus p.number k h page locked ∷ [])
  pub least : version_after p.seen k ≤ page.version
  pub room : locked ≡ true → HadRoom (read_of s.cpus p.number k h page true) q.seen

-- without a miss
pub record HasReadOnce (s : BoardParts) (k h : ℕ) (locked : Bool) (page : Page)
    (p q : PassKnown) : Type 0 where
  pub read : TableRead s k h locked page p q
  pub misses : q.misses ≡ p.misses

-- tried once, and read under the lock exactly where that met an update
pub record HasReadTable (s : BoardParts) (k h : ℕ) (page : Page) (p q : PassKnown) : Type 0 where
  pub locked : Bool
  pub read : TableRead s k h locked page p q
  pub tried : Tried k locked p q

-- the answer by the page that was read last, and what the clamp makes of it
abbrev pub IsAnswered : BoardParts → Read → ℕ → Page → ReadReply → PassKnown → PassKnown → Type 0
IsAnswered s (OfPage cpu) h page (PageIs reply) p q =
    (reply ≡ answer_by (ratio_in s) page h) × (q ≡ p)
IsAnswered s (OfClock cpu) h page (ClockIs reply) p q =
    HasClamped cpu (answer_by (ratio_in s) page h) reply p q
IsAnswered s OfHv h page (HvIs reply) p q =
    (reply ≡ hv_answer_by (ratio_in s) (of_page page) h) × (q ≡ p)
IsAnswered s _ h page _ p q = ⊥
