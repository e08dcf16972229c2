-- What the records of a phase ask, which entries of a history answer them, and the text of these.
use Rattle.std.specs.Prelude.{
  ◌≡◌,
  ℕ,
  zero,
  suc,
  ◌<◌,
  ◌≤◌,
  ◌==◌,
  List,
  [],
  ◌∷◌,
  ◌++◌,
  All,
  Option,
  Some,
  None,
  Bool,
  true,
  false,
  IsTrue,
}
use Rattle.std.specs.List.{filter}
use mathlib.Core.List.{IsPrefix}
use Rattle.trace_blocks.specs.declared.deliveries.Deliveries.{Deliveries}
use Rattle.hv_page.specs.declared.page.HvPage.{HvPage}
use Rattle.pvclock_page.specs.declared.page.Page.{Page}
use Rattle.pvclock_page.specs.declared.page.ClockReply.TheVariants.{Off, On}
use Rattle.board_types.specs.declared.parts.BoardParts.{BoardParts}
use Rattle.board_core.specs.Pages.{reading_by, answer_by}
use Rattle.board_core.specs.Hv.{hv_answer_by}
use Rattle.board_history.specs.Machine.{ratio_in}
use Rattle.board_history.specs.History.{entries_of, version_after}
use Rattle.board_history.specs.declared.entry.Entry.{Entry}
use Rattle.board_history.specs.declared.entry.Entry.TheVariants.{Board, PageRead, HvRead, Clamp}
use Rattle.clock_table.specs.declared.view.Miss.{Miss}
use Rattle.shared_board.specs.Passes.{IsUpdate}
use Rattle.trace_blocks.specs.declared.records.Answer.{Answer}
use Rattle.trace_blocks.specs.declared.records.Answer.TheVariants.{Acted, PageIs, ClockIs, HvIs}
use Rattle.trace_records.specs.Calls.{IsFittingCall}
use Rattle.trace_records.specs.declared.Call.{Call}
use Rattle.trace_records.specs.declared.Call.TheVariants.{Act, ReadPage, ReadClock, ReadHv}
use Rattle.trace_blocks.specs.declared.records.Record.{Record}
use Rattle.trace_blocks.specs.Blocks.{block_of}

-- a board of this many processors and this format has that of the record, and takes what it asks
abbrev pub IsFitting : ℕ → ℕ → Record → Type 0
IsFitting cpus format r = (r.cpu < cpus) × IsFittingCall cpus format r.call

-- the records of a processor, in order
abbrev pub records_of : ℕ → List Record → List Record
records_of n rs = filter (λ r. r.cpu == n) rs

-- the entries that a call of the pass n makes on a board that opened with s, and its answer: one of
-- an access; one of a page; of the clock that of the page, and the clamp where the page is enabled;
-- one of the reference page
abbrev pub CallMade : BoardParts → ℕ → ℕ → ℕ → Call → Answer → List Entry → Type 0
CallMade s n cpu h (Act a) (Acted reply) es = es ≡ Board n cpu h a reply ∷ []
CallMade s n cpu h (ReadPage k) (PageIs reply) es =
    (page : Page) × (locked : Bool) × (reply ≡ answer_by (ratio_in s) page h)
    × (es ≡ PageRead n k h page locked ∷ [])
CallMade s n cpu h (ReadClock k) (ClockIs Off) es =
    (page : Page) × (locked : Bool) × (page.enabled ≡ false)
    × (es ≡ PageRead n k h page locked ∷ [])
CallMade s n cpu h (ReadClock k) (ClockIs (On reading clock)) es =
    (page : Page) × (locked : Bool) × IsTrue page.enabled
    × (reading ≡ reading_by (ratio_in s) page h)
    × (es ≡ PageRead n k h page locked ∷ Clamp n k reading clock ∷ [])
CallMade s n cpu h ReadHv (HvIs reply) es =
    (page : HvPage) × (locked : Bool) × (reply ≡ hv_answer_by (ratio_in s) page h)
    × (es ≡ HvRead n h page locked ∷ [])
CallMade s n cpu h _ _ es = ⊥

-- the entries of these records in order, and the text of their blocks
abbrev pub AllMade : BoardParts → Deliveries → ℕ → List Record → List ℕ → List Entry → Type 0
AllMade s ds n [] out es = (out ≡ []) × (es ≡ [])
AllMade s ds n (r ∷ rs) out es =
    (a : Answer) × (more : List ℕ) × (first : List Entry) × (rest : List Entry)
    × (out ≡ block_of ds r.line a ++ more) × (es ≡ first ++ rest)
    × CallMade s n r.cpu r.h r.call a first × AllMade s ds n rs more rest

-- the page that an entry read under the lock; the reference page has the place cpus
abbrev pub locked_page : ℕ → Entry → Option ℕ
locked_page cpus (PageRead n k h page true) = Some k
locked_page cpus (HvRead n h page true) = Some cpus
locked_page cpus e = None

-- a try of the pass n met an update of the page k: its first version is no older than what the pass
-- had seen of h by then, with all the entries that it had made
pub record IsTryOf (n : ℕ) (h made : List Entry) (k : ℕ) (m : Miss) : Type 0 where
  pub page : m.page ≡ k
  pub update : IsUpdate m.first m.second
  pub seen : List Entry
  pub begins : IsPrefix seen h
  pub mine : entries_of n seen ≡ made
  pub least : version_after seen k ≤ m.first

-- the miss of an entry that read this page under the lock; none of any other
abbrev pub HasMiss : ℕ → List Entry → List Entry → Option ℕ → List Miss → Type 0
HasMiss n h made None ms = ms ≡ []
HasMiss n h made (Some k) ms = (m : Miss) × (ms ≡ m ∷ []) × IsTryOf n h made k m

-- the misses of entries that the pass n made after others, in order
abbrev pub AllTried : ℕ → ℕ → List Entry → List Entry → List Entry → List Miss → Type 0
AllTried cpus n h made [] ms = ms ≡ []
AllTried cpus n h made (e ∷ es) ms =
    (first : List Miss) × (rest : List Miss) × (ms ≡ first ++ rest)
    × HasMiss n h made (locked_page cpus e) first × AllTried cpus n h (made ++ e ∷ []) es rest

-- the pass n has taken the lock for a read only after a try without it that met an update of the same
-- page, which came after the pass's entry before: these are its misses, one for each such read, there
-- are no others, and the version that each of them met came
abbrev pub IsTried : ℕ → List Entry → ℕ → Type 0
IsTried cpus h n =
    (ms : List Miss) × AllTried cpus n h [] (entries_of n h) ms
    × All (λ (m : Miss). m.second ≤ version_after h m.page) ms

-- the text of k processors from n on, one after another
abbrev pub Shown : BoardParts → Deliveries → List Record → List Entry → ℕ → ℕ → List ℕ → Type 0
Shown s ds rs h n zero out = out ≡ []
Shown s ds rs h n (suc k) out =
    (first : List ℕ) × (rest : List ℕ) × (out ≡ first ++ rest)
    × AllMade s ds n (records_of n rs) first (entries_of n h) × IsTried s.cpus h n
    × Shown s ds rs h (suc n) k rest
