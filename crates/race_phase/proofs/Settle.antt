-- Either all workers have answered their records, or one has stopped; and none has.
use Rattle.std.proofs.Common.{
  ◌≡◌,
  ◌⊎◌,
  inl,
  inr,
  ⊎_elim,
  ℕ,
  zero,
  suc,
  ◌+◌,
  ◌<◌,
  ◌≤◌,
  eqb,
  List,
  [],
  ◌∷◌,
  length,
  refl,
  sym,
  ap,
  ◌∙◌,
  subst,
  arith,
  Bool,
  true,
  false,
  if◌then◌else◌,
  All,
}
use mathlib.Core.List.{IsPrefix}
use Rattle.trace_blocks.specs.declared.deliveries.Deliveries.{Deliveries}
use Rattle.pvclock_page.specs.declared.page.ClockReply.TheVariants.{Off, On}
use Rattle.board_types.specs.declared.access.Access.{Access}
use Rattle.board_types.specs.declared.parts.BoardParts.{BoardParts}
use Rattle.board_history.specs.History.{IsLegal, entries_of}
use Rattle.board_history.specs.declared.entry.Entry.{Entry}
use Rattle.shared_board.specs.declared.known.PassKnown.{PassKnown}
use Rattle.shared_board.specs.Passes.{mine}
use Rattle.shared_board.specs.Stops.{PassesTold}
use Rattle.trace_blocks.specs.declared.records.Answer.{Answer}
use Rattle.trace_blocks.specs.declared.records.Answer.TheVariants.{Acted, PageIs, ClockIs, HvIs}
use Rattle.trace_records.specs.declared.Call.{Call}
use Rattle.trace_records.specs.declared.Call.TheVariants.{Act, ReadPage, ReadClock, ReadHv}
use Rattle.trace_blocks.specs.declared.records.Record.{Record}
use Rattle.race_phase.specs.Calls.{IsFitting, records_of, CallMade, AllMade, Shown}
use Rattle.race_phase.specs.private.Workers.{IsTrouble, HasStopped, HasWorked, AllWorked, HasTried}
use Rattle.race_phase.proofs.Counts.{weigh, weigh-append, of_entry, of_call, of_record, reads, part, one, one_there}
use Rattle.race_phase.proofs.Workers.{tried_told}

-- the weight of the records of k processors from n on
abbrev pub rpart : (Record → ℕ) → List Record → ℕ → ℕ → ℕ
rpart v rs n zero = 0
rpart v rs n (suc k) = weigh v (records_of n rs) + rpart v rs (suc n) k

rpart-nil : (v : Record → ℕ) (n k : ℕ) → rpart v [] n k ≡ 0
rpart-nil v n zero = refl
rpart-nil v n (suc k) = let e = rpart-nil v (suc n) k in omega arith

weigh_if : (b : Bool) (v : Record → ℕ) (r : Record) (rs : List Record) → weigh v (if b then (r ∷ rs) else rs) ≡ (if b then v r else 0) + weigh v rs
weigh_if true v r rs = refl
weigh_if false v r rs = omega arith

rpart-cons : (v : Record → ℕ) (r : Record) (rs : List Record) (n k : ℕ) → rpart v (r ∷ rs) n k ≡ one r.cpu (v r) n k + rpart v rs n k
rpart-cons v r rs n zero = refl
rpart-cons v r rs n (suc k) =
    let first = weigh_if (eqb r.cpu n) v r (records_of n rs) in
    let rest = rpart-cons v r rs (suc n) k in omega arith

-- the records of all processors
pub rpart_whole : (v : Record → ℕ) (cpus format : ℕ) (rs : List Record) → All (IsFitting cpus format) rs → rpart v rs 0 cpus ≡ weigh v rs
rpart_whole v cpus format [] all = rpart-nil v 0 cpus
rpart_whole v cpus format (r ∷ rs) all =
    let l : r.cpu < cpus = (all 0 r (omega arith)).0 in
    let rest = rpart_whole v cpus format rs (λ k d l. all (suc k) d (omega arith)) in
    let first = one_there r.cpu (v r) 0 cpus (omega arith) (omega arith) in
    let add = rpart-cons v r rs 0 cpus in omega arith

module _ (s : BoardParts) where
  -- a weight of records that is at least that of the entries that they make, and one that is the same
  abbrev pub Covers : (Entry → ℕ) → (Record → ℕ) → Type 0
  Covers w v = (n : ℕ) (r : Record) (a : Answer) (es : List Entry) → CallMade s n r.cpu r.h r.call a es → weigh w es ≤ v r

  abbrev pub Exact : (Entry → ℕ) → (Record → ℕ) → Type 0
  Exact w v = (n : ℕ) (r : Record) (a : Answer) (es : List Entry) → CallMade s n r.cpu r.h r.call a es → weigh w es ≡ v r

  exact_call : (f : ℕ → ℕ → Access → ℕ) (n cpu h : ℕ) (call : Call) (a : Answer) (es : List Entry) → CallMade s n cpu h call a es
      → weigh (of_entry f) es ≡ of_call f cpu h call
  exact_call f n cpu h (Act x) (Acted reply) es m = let e = ap (weigh (of_entry f)) m in omega arith
  exact_call f n cpu h (ReadPage page) (PageIs reply) es m = ap (weigh (of_entry f)) m.3
  exact_call f n cpu h (ReadClock page) (ClockIs Off) es m = ap (weigh (of_entry f)) m.3
  exact_call f n cpu h (ReadClock page) (ClockIs (On reading clock)) es m = ap (weigh (of_entry f)) m.4
  exact_call f n cpu h ReadHv (HvIs reply) es m = ap (weigh (of_entry f)) m.3
  exact_call f n cpu h _ _ es m = absurd m

  pub exact : (f : ℕ → ℕ → Access → ℕ) → Exact (of_entry f) (of_record f)
  exact f n r a es m = exact_call f n r.cpu r.h r.call a es m

  reads_call : (n cpu h : ℕ) (call : Call) (a : Answer) (es : List Entry) → CallMade s n cpu h call a es → weigh reads es ≤ 1
  reads_call n cpu h (Act x) (Acted reply) es m = let e = ap (weigh reads) m in omega arith
  reads_call n cpu h (ReadPage page) (PageIs reply) es m = let e = ap (weigh reads) m.3 in omega arith
  reads_call n cpu h (ReadClock page) (ClockIs Off) es m = let e = ap (weigh reads) m.3 in omega arith
  reads_call n cpu h (ReadClock page) (ClockIs (On reading clock)) es m = let e = ap (weigh reads) m.4 in omega arith
  reads_call n cpu h ReadHv (HvIs reply) es m = let e = ap (weigh reads) m.3 in omega arith
  reads_call n cpu h _ _ es m = absurd m

  pub reads_cover : Covers reads (λ r. 1)
  reads_cover n r a es m = reads_call n r.cpu r.h r.call a es m

  module _ (ds : Deliveries) where
    covers_all : (w : Entry → ℕ) (v : Record → ℕ) (n : ℕ) (rs : List Record) (out : List ℕ) (es : List Entry) → Covers w v → AllMade s ds n rs out es
        → weigh w es ≤ weigh v rs
    covers_all w v n [] out es k all = let e = ap (weigh w) all.1 in omega arith
    covers_all w v n (r ∷ rs) out es k all =
        let e : weigh w es ≡ weigh w all.2 + weigh w all.3 = ap (weigh w) all.5 ∙ weigh-append w all.2 all.3 in
        let first = k n r all.0 all.2 all.6 in
        let rest = covers_all w v n rs all.1 all.3 k all.7 in omega arith

    pub exact_all : (w : Entry → ℕ) (v : Record → ℕ) (n : ℕ) (rs : List Record) (out : List ℕ) (es : List Entry) → Exact w v → AllMade s ds n rs out es
        → weigh w es ≡ weigh v rs
    exact_all w v n [] out es k all = let e = ap (weigh w) all.1 in omega arith
    exact_all w v n (r ∷ rs) out es k all =
        let e : weigh w es ≡ weigh w all.2 + weigh w all.3 = ap (weigh w) all.5 ∙ weigh-append w all.2 all.3 in
        let first = k n r all.0 all.2 all.6 in
        let rest = exact_all w v n rs all.1 all.3 k all.7 in omega arith

    stopped_below : (n : ℕ) (rs : List Record) (p : PassKnown) (x : HasStopped s ds n rs p) (w : Entry → ℕ) (v : Record → ℕ) → Covers w v
        → weigh w (mine p) + v x.next ≤ weigh v rs
    stopped_below n rs p x w v k =
        let all = covers_all w v n x.done x.text (mine p) k x.made in
        let whole : weigh v rs ≡ weigh v x.done + (v x.next + weigh v x.rest) = ap (weigh v) x.whole ∙ weigh-append v x.done (x.next ∷ x.rest) in omega arith

    worked_below : (rs : List Record) (n : ℕ) (p : PassKnown) (zs : List ℕ) (w : Entry → ℕ) (v : Record → ℕ) → Covers w v → HasWorked s ds rs n p zs
        → weigh w (mine p) ≤ weigh v (records_of n rs)
    worked_below rs n p zs w v k x = ⊎_elim
        (λ (all : AllMade s ds n (records_of n rs) zs (mine p) × HasTried s.cpus p). covers_all w v n (records_of n rs) zs (mine p) k all.0)
        (λ (y : HasStopped s ds n (records_of n rs) p). let l = stopped_below n (records_of n rs) p y w v k in omega arith)
        x.1

-- the history has the entries of a pass as the pass made them
told_mine : (n : ℕ) (h : List Entry) (p : PassKnown) → p.number ≡ n → entries_of p.number h ≡ mine p → entries_of n h ≡ mine p
told_mine n h p is e = ap (λ (k : ℕ). entries_of k h) (sym is) ∙ e

-- a worker that has stopped leaves less
pub record Stuck (s : BoardParts) (rs : List Record) (h : List Entry) (n k : ℕ) : Type 0 where
  pub next : Record
  pub pass : PassKnown
  pub met : IsTrouble s next pass
  pub fits : IsFitting s.cpus s.format next
  pub legal : IsLegal pass.seen
  pub begins : IsPrefix pass.seen h
  pub below : (w : Entry → ℕ) (v : Record → ℕ) → Covers s w v → part w h n k + v next ≤ rpart v rs n k

module _ (s : BoardParts) (ds : Deliveries) (rs : List Record) (h : List Entry) where
  all_below : (n : ℕ) (ps : List PassKnown) (out : List ℕ) (w : Entry → ℕ) (v : Record → ℕ) → Covers s w v → AllWorked s ds rs n ps out → PassesTold h ps
      → part w h n (length ps) ≤ rpart v rs n (length ps)
  all_below n [] out w v k all told = omega arith
  all_below n (p ∷ ps) out w v k all told =
      let first = worked_below s ds rs n p all.0 w v k all.3 in
      let same = ap (weigh w) (told_mine n h p all.3.0 told.1) in
      let rest = all_below (suc n) ps all.1 w v k all.4 told.3 in omega arith

  -- either all workers have answered, or one has stopped
  pub settle : (n : ℕ) (ps : List PassKnown) (out : List ℕ) → AllWorked s ds rs n ps out → PassesTold h ps
      → Shown s ds rs h n (length ps) out ⊎ Stuck s rs h n (length ps)
  settle n [] out all told = inl all
  settle n (p ∷ ps) out all told = by_rest (settle (suc n) ps all.1 all.4 told.3)
    where
      mine_told : entries_of n h ≡ mine p
      mine_told = told_mine n h p all.3.0 told.1

      here : HasStopped s ds n (records_of n rs) p → Stuck s rs h n (suc (length ps))
      here x = record {
        next = x.next;
        pass = p;
        met = x.met;
        fits = x.fits;
        legal = x.legal;
        begins = told.0;
        below = λ w v k.
            let first = stopped_below s ds n (records_of n rs) p x w v k in
            let same = ap (weigh w) mine_told in
            let rest = all_below (suc n) ps all.1 w v k all.4 told.3 in omega arith;
      }

      later : Stuck s rs h (suc n) (length ps) → Stuck s rs h n (suc (length ps))
      later x = record {
        next = x.next;
        pass = x.pass;
        met = x.met;
        fits = x.fits;
        legal = x.legal;
        begins = x.begins;
        below = λ w v k.
            let first = worked_below s ds rs n p all.0 w v k all.3 in
            let same = ap (weigh w) mine_told in
            let rest = x.below w v k in omega arith;
      }

      by_first : Shown s ds rs h (suc n) (length ps) all.1
          → (AllMade s ds n (records_of n rs) all.0 (mine p) × HasTried s.cpus p) ⊎ HasStopped s ds n (records_of n rs) p
          → Shown s ds rs h n (suc (length ps)) out ⊎ Stuck s rs h n (suc (length ps))
      by_first shown x = ⊎_elim
          (λ (made : AllMade s ds n (records_of n rs) all.0 (mine p) × HasTried s.cpus p).
          inl (
            all.0,
            all.1,
            all.2,
            subst (AllMade s ds n (records_of n rs) all.0) (sym mine_told) made.0,
            tried_told s.cpus n h p all.3.0 told.0 mine_told told.2 made.1,
            shown,
          ))
          (λ (y : HasStopped s ds n (records_of n rs) p). inr (here y)) x

      by_rest : Shown s ds rs h (suc n) (length ps) all.1 ⊎ Stuck s rs h (suc n) (length ps)
          → Shown s ds rs h n (suc (length ps)) out ⊎ Stuck s rs h n (suc (length ps))
      by_rest x = ⊎_elim
          (λ (shown : Shown s ds rs h (suc n) (length ps) all.1). by_first shown all.3.1)
          (λ (y : Stuck s rs h (suc n) (length ps)). inr (later y)) x
