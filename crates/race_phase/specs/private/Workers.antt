-- What a worker does, and that it may have stopped.
use Rattle.std.specs.Prelude.{
  ◌≡◌,
  ◌⊎◌,
  ℕ,
  suc,
  ◌<◌,
  ◌≤◌,
  ◌+◌,
  ◌^◌,
  List,
  [],
  ◌∷◌,
  ◌++◌,
  length,
  take,
  All,
  Some,
  IsSome,
  Result,
  IfOk,
  OnOk,
  OnErr,
}
use Rattle.trace_blocks.specs.declared.deliveries.Deliveries.{Deliveries}
use Rattle.board_types.specs.declared.parts.BoardParts.{BoardParts}
use Rattle.board_types.specs.declared.reply.Refusal.{Refusal}
use Rattle.board_core.specs.Refusals.{refusal_of}
use Rattle.host_counter.specs.Time.{time_fault}
use Rattle.board_history.specs.History.{board_after, IsLegal}
use Rattle.board_history.specs.declared.entry.Entry.{Entry}
use Rattle.clock_table.specs.declared.view.Miss.{Miss}
use Rattle.shared_board.specs.declared.known.PassKnown.{PassKnown}
use Rattle.shared_board.specs.Passes.{mine, Made, Unanswered}
use Rattle.shared_board.specs.Faults.{page_reads}
use Rattle.trace_blocks.specs.declared.records.Answer.{Answer}
use Rattle.trace_records.specs.declared.Call.{Call}
use Rattle.trace_records.specs.declared.Call.TheVariants.{Act, ReadPage, ReadClock, ReadHv}
use Rattle.trace_blocks.specs.declared.records.Record.{Record}
use Rattle.race_phase.specs.declared.batch.Place.{Place}
use Rattle.trace_blocks.specs.Blocks.{block_of}
use Rattle.race_phase.specs.Calls.{IsFitting, records_of, CallMade, AllMade, AllTried}
use Rattle.race_phase.specs.private.Told.{answer_with}

-- a pass has missed before each read under the lock that it has made
abbrev pub HasTried : ℕ → PassKnown → Type 0
HasTried cpus p = AllTried cpus p.number p.seen [] (mine p) p.misses

-- a pass answered a record
abbrev pub IsMade : BoardParts → Record → Answer → PassKnown → PassKnown → Type 0
IsMade s r a p q =
    (es : List Entry) × CallMade s p.number r.cpu r.h r.call a es × Made p q es
    × (ms : List Miss) × AllTried s.cpus p.number p.seen (mine p) es ms × (q.misses ≡ p.misses ++ ms)

-- why a record was not answered: the board refused the access; or the count of a read has no time,
-- or so many pages were read that the front word leaves no room
abbrev pub IsUnread : BoardParts → ℕ → List Entry → Type 0
IsUnread s h seen = IsSome (time_fault s.anchor h) ⊎ (2 ^ 63 ≤ page_reads seen)

abbrev pub CallTrouble : BoardParts → ℕ → ℕ → Call → List Entry → Type 0
CallTrouble s cpu h (Act a) seen =
    (f : Refusal) × (refusal_of (board_after seen) cpu h a ≡ Some f)
CallTrouble s cpu h (ReadPage page) seen = IsUnread s h seen
CallTrouble s cpu h (ReadClock page) seen = IsUnread s h seen
CallTrouble s cpu h ReadHv seen = IsUnread s h seen

abbrev pub IsTrouble : BoardParts → Record → PassKnown → Type 0
IsTrouble s r p = CallTrouble s r.cpu r.h r.call p.seen

-- the pass has made the entries of the first of these records, and met trouble at the next
pub record HasStopped (s : BoardParts) (ds : Deliveries) (n : ℕ) (rs : List Record)
    (p : PassKnown) : Type 0 where
  pub done : List Record
  pub next : Record
  pub rest : List Record
  pub text : List ℕ
  pub whole : rs ≡ done ++ next ∷ rest
  pub made : AllMade s ds n done text (mine p)
  pub met : IsTrouble s next p
  pub fits : IsFitting s.cpus s.format next
  pub legal : IsLegal p.seen

-- the pass n has answered all its records, or it has stopped
abbrev pub HasWorked :
    BoardParts → Deliveries → List Record → ℕ → PassKnown → List ℕ → Type 0
HasWorked s ds rs n p out =
    (p.number ≡ n)
    × ((AllMade s ds n (records_of n rs) out (mine p) × HasTried s.cpus p)
    ⊎ HasStopped s ds n (records_of n rs) p)

-- the block of a record, by its place
abbrev pub place_text : Deliveries → Record → Place → List ℕ
place_text ds r t = block_of ds r.line (answer_with t.told t.reply)

-- the blocks of records, in order
abbrev pub places_text : Deliveries → List Record → List Place → List ℕ
places_text ds [] ts = []
places_text ds (r ∷ rs) [] = []
places_text ds (r ∷ rs) (t ∷ ts) = place_text ds r t ++ places_text ds rs ts

-- a pass has answered these records after what it had made before, as the places say
pub record AllAnswered (s : BoardParts) (rs : List Record) (ts : List Place) (p q : PassKnown) :
    Type 0 where
  pub number : q.number ≡ p.number
  pub long : length ts ≡ length rs
  pub made : (ds : Deliveries) (done : List Record) (out : List ℕ)
      → AllMade s ds p.number done out (mine p)
      → AllMade s ds p.number (done ++ rs) (out ++ places_text ds rs ts) (mine q)
  pub tried : HasTried s.cpus p → HasTried s.cpus q

-- a pass has answered these records, and their blocks were appended to a text
abbrev pub HasPrinted : BoardParts → Deliveries → List Record → List ℕ → List ℕ
    → PassKnown → PassKnown → Type 0
HasPrinted s ds rs old new p q =
    (ts : List Place) × (new ≡ old ++ places_text ds rs ts) × AllAnswered s rs ts p q

-- a pass has stopped at one of these records
pub record HasHalted (s : BoardParts) (rs : List Record) (p q : PassKnown) : Type 0 where
  pub number : q.number ≡ p.number
  pub met : (ds : Deliveries) (done : List Record) (out : List ℕ)
      → AllMade s ds p.number done out (mine p) → HasStopped s ds p.number (done ++ rs) q

-- a worker may ask for these records: they fit a board that opened with s, there is a place for each, the gate can number
-- them from `index` on, and what the pass has seen is legal
pub record AreAskable (s : BoardParts) (index : ℕ) (rs : List Record) (ts : List Place)
    (p : PassKnown) : Type 0 where
  pub places : length rs ≤ length ts
  pub small : index + length rs < 2 ^ 64
  pub fitting : All (IsFitting s.cpus s.format) rs
  pub legal : IsLegal p.seen

-- a record was answered, as its place says; or it was not, for a cause
pub record HasAnswered {T E : Type 0} (s : BoardParts) (r : Record) (t : Place)
    (result : Result T E) (p q : PassKnown) : Type 0 where
  pub ok : OnOk result (IsMade s r (answer_with t.told t.reply) p q)
  pub err : OnErr result (Unanswered p q × IsTrouble s r q)

-- of records that were answered up to the place `from`, those up to a place were; or the pass has stopped at one
pub record HasGoneOn {E : Type 0} (s : BoardParts) (rs : List Record) (old new : List Place)
    (from : ℕ) (result : Result ℕ E) (p q : PassKnown) : Type 0 where
  pub places : length new ≡ length old
  pub ok : IfOk result (λ k. (o : PassKnown)
      → AllAnswered s (take from rs) (take from old) o p
      → AllAnswered s (take k rs) (take k new) o q)
  pub legal : OnOk result (IsLegal q.seen)
  pub err : OnErr result ((o : PassKnown)
      → AllAnswered s (take from rs) (take from old) o p
      → HasHalted s rs o q)

-- of these records the pass has answered all but the last ones, which wait; the text is of the others
pub record AllButLast (s : BoardParts) (ds : Deliveries) (n : ℕ) (rs : List Record)
    (waiting : List Record) (text : List ℕ) (p : PassKnown) : Type 0 where
  pub done : List Record
  pub whole : rs ≡ done ++ waiting
  pub made : AllMade s ds n done text (mine p)
  pub tried : HasTried s.cpus p

-- the passes from n on, and what they answered, one after another
abbrev pub AllWorked : BoardParts → Deliveries → List Record → ℕ → List PassKnown
    → List ℕ → Type 0
AllWorked s ds rs n [] out = out ≡ []
AllWorked s ds rs n (p ∷ ps) out =
    (first : List ℕ) × (rest : List ℕ) × (out ≡ first ++ rest)
    × HasWorked s ds rs n p first × AllWorked s ds rs (suc n) ps rest
