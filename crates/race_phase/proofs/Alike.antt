-- Boards that refuse alike: what any order of a phase leaves, and what file order leaves.
use Rattle.std.proofs.Common.{
  ◌≡◌,
  inl,
  inr,
  ℕ,
  zero,
  suc,
  ◌+◌,
  ◌*◌,
  ◌≤◌,
  ltb,
  List,
  [],
  ◌∷◌,
  ◌++◌,
  length,
  get_or,
  refl,
  sym,
  ap,
  ◌∙◌,
  subst,
  arith,
  append_assoc,
  append-nil,
  Bool,
  if◌then◌else◌,
  All,
}
use Rattle.std.proofs.lemmas.Bool.{cases_lt, lt-ltb, le-ltb}
use Rattle.std.proofs.lemmas.List.{ext_get_or}
use Rattle.host_counter.specs.declared.Anchor.{Anchor}
use Rattle.trace_blocks.specs.declared.deliveries.Deliveries.{Deliveries}
use Rattle.board_types.specs.declared.access.Access.{Access}
use Rattle.board_types.specs.declared.parts.BoardParts.{BoardParts}
use Rattle.board_meters.specs.declared.meters.Meters.{Meters}
use Rattle.board_meters.specs.Meters.{counted}
use Rattle.board_meters.specs.Published.{published_by}
use Rattle.board_core.specs.Refusals.{meters_of}
use Rattle.board_history.specs.History.{board_after, LegalFrom, IsLegal, entries_of}
use Rattle.board_history.specs.declared.entry.Entry.{Entry}
use Rattle.board_history.specs.declared.entry.Entry.TheVariants.{Opened, Board, PageRead, HvRead, Clamp}
use Rattle.trace_records.specs.declared.Call.{Call}
use Rattle.trace_records.specs.declared.Call.TheVariants.{Act}
use Rattle.trace_blocks.specs.declared.records.Record.{Record}
use Rattle.race_phase.specs.Calls.{IsFitting, records_of, Shown}
use Rattle.race_phase.specs.Order.{after_call, after_record, after_records}
use Rattle.race_phase.specs.private.Ran.{PhaseTold}
use Rattle.race_phase.proofs.Counts.{
  weigh,
  of_entry,
  of_call,
  of_record,
  Raises,
  any_access,
  raises_accesses,
  publishes,
  raises_page,
  publishes_words,
  publishes_reference,
  raises_wall,
  raises_hv,
  raised,
  length-raised,
  meters_after,
  metered,
  meters_of-entry,
  part,
  part_whole,
}
use Rattle.race_phase.proofs.Settle.{rpart, rpart_whole, Exact, exact, exact_all}
use Rattle.race_phase.proofs.Taken.{filed}

-- the entries weigh what the records weigh
shown_exact : (s : BoardParts) (ds : Deliveries) (w : Entry → ℕ) (v : Record → ℕ) (rs : List Record) (h : List Entry) (n k : ℕ) (out : List ℕ)
    → Exact s w v
    → Shown s ds rs h n k out → part w h n k ≡ rpart v rs n k
shown_exact s ds w v rs h n zero out e shown = refl
shown_exact s ds w v rs h n (suc k) out e shown =
    let first = exact_all s ds w v n (records_of n rs) shown.0 (entries_of n h) e shown.3 in
    let rest = shown_exact s ds w v rs h (suc n) k shown.1 e shown.5 in omega arith

-- accesses past a count
abbrev pub past : ℕ → ℕ → ℕ → Access → ℕ
past x cpu h a = if ltb x h then 1 else 0

-- the host's count is no more than x exactly where no access is past x
record Reaches (x : ℕ) (m o : Meters) (w : ℕ) : Type 0 where
  low : o.host ≤ x → (m.host ≤ x) × (w ≡ 0)
  high : m.host ≤ x → w ≡ 0 → o.host ≤ x

reaches_none : (x : ℕ) (m : Meters) → Reaches x m m 0
reaches_none x m = record { low = λ l. (l, refl); high = λ l z. l }

reaches_access : (x : ℕ) (m : Meters) (cpu h : ℕ) (a : Access) → Reaches x m (counted cpu h a m) (past x cpu h a)
reaches_access x m cpu h a = elim (cases_lt x h) [
  | inl more ↦
      let one : past x cpu h a ≡ 1 = ap (λ (t : Bool). if t then 1 else 0) (lt-ltb x h more) in
      record { low = λ l. absurd (omega arith); high = λ l z. absurd (omega arith) }
  | inr less ↦
      let none : past x cpu h a ≡ 0 = ap (λ (t : Bool). if t then 1 else 0) (le-ltb x h less) in
      record { low = λ l. ((omega arith), none); high = λ l z. omega arith }
]

reaches_more : (x : ℕ) (m o p : Meters) (v w : ℕ) → Reaches x m o v → Reaches x o p w → Reaches x m p (v + w)
reaches_more x m o p v w r q = record {
  low = λ l. (let k = q.low l in let n = r.low k.0 in (n.0, (let i = k.1 in let j = n.1 in omega arith)));
  high = λ l z. q.high (r.high l (omega arith)) (omega arith);
}

reaches_call : (x : ℕ) (m : Meters) (cpu h : ℕ) (call : Call) → Reaches x m (after_call m cpu h call) (of_call (past x) cpu h call)
reaches_call x m cpu h (Act a) = reaches_access x m cpu h a
reaches_call x m cpu h _ = reaches_none x m

reaches_records : (x : ℕ) (m : Meters) (rs : List Record) → Reaches x m (after_records m rs) (weigh (of_record (past x)) rs)
reaches_records x m [] = reaches_none x m
reaches_records x m (r ∷ rs) =
    reaches_more x m (after_record m r) (after_records (after_record m r) rs) (of_record (past x) r) (weigh (of_record (past x)) rs)
    (reaches_call x m r.cpu r.h r.call) (reaches_records x (after_record m r) rs)

reaches_entry : (x : ℕ) (m : Meters) (e : Entry) → Reaches x m (metered e m) (of_entry (past x) e)
reaches_entry x m (Board pass cpu h access reply) = reaches_access x m cpu h access
reaches_entry x m (Opened s) = reaches_none x m
reaches_entry x m (PageRead pass cpu h page locked) = reaches_none x m
reaches_entry x m (HvRead pass h page locked) = reaches_none x m
reaches_entry x m (Clamp pass cpu reading clock) = reaches_none x m

reaches_entries : (x : ℕ) (before xs : List Entry) → LegalFrom before xs
    → Reaches x (meters_after before) (meters_after (before ++ xs)) (weigh (of_entry (past x)) xs)
reaches_entries x before [] l = subst (λ (h : List Entry). Reaches x (meters_after before) (meters_after h) 0) (sym (append-nil before))
    (reaches_none x (meters_after before))
reaches_entries x before (e ∷ es) l =
    let first : Reaches x (meters_after before) (meters_after (before ++ e ∷ [])) (of_entry (past x) e) =
    subst (λ (m : Meters). Reaches x (meters_after before) m (of_entry (past x) e)) (sym (meters_of-entry before e l.0)) (reaches_entry x (meters_after before) e) in
    let rest : Reaches x (meters_after (before ++ e ∷ [])) (meters_after (before ++ e ∷ es)) (weigh (of_entry (past x)) es) =
    subst (λ (h : List Entry). Reaches x (meters_after (before ++ e ∷ [])) (meters_after h) (weigh (of_entry (past x)) es)) (append_assoc before (e ∷ []) es)
    (reaches_entries x (before ++ e ∷ []) es l.1) in
    reaches_more x (meters_after before) (meters_after (before ++ e ∷ [])) (meters_after (before ++ e ∷ es)) (of_entry (past x) e)
    (weigh (of_entry (past x)) es) first rest

-- what no access changes
abbrev fixed_of : Meters → ℕ × ℕ × Anchor × ℕ
fixed_of m = (m.format, m.cpus, m.anchor, length m.versions)

fixed_access : (m : Meters) (cpu h : ℕ) (a : Access) → fixed_of (counted cpu h a m) ≡ fixed_of m
fixed_access m cpu h a = λ i. (m.format, m.cpus, m.anchor, length-raised (published_by cpu a) m.versions i)

fixed_call : (m : Meters) (cpu h : ℕ) (call : Call) → fixed_of (after_call m cpu h call) ≡ fixed_of m
fixed_call m cpu h (Act a) = fixed_access m cpu h a
fixed_call m cpu h _ = refl

fixed_records : (m : Meters) (rs : List Record) → fixed_of (after_records m rs) ≡ fixed_of m
fixed_records m [] = refl
fixed_records m (r ∷ rs) = fixed_records (after_record m r) rs ∙ fixed_call m r.cpu r.h r.call

fixed_entry : (m : Meters) (e : Entry) → fixed_of (metered e m) ≡ fixed_of m
fixed_entry m (Board pass cpu h access reply) = fixed_access m cpu h access
fixed_entry m _ = refl

fixed_entries : (before xs : List Entry) → LegalFrom before xs → fixed_of (meters_after (before ++ xs)) ≡ fixed_of (meters_after before)
fixed_entries before [] l = ap (λ (h : List Entry). fixed_of (meters_after h)) (append-nil before)
fixed_entries before (e ∷ es) l =
    sym (ap (λ (h : List Entry). fixed_of (meters_after h)) (append_assoc before (e ∷ []) es))
    ∙ (fixed_entries (before ++ e ∷ []) es l.1 ∙ (ap fixed_of (meters_of-entry before e l.0) ∙ fixed_entry (meters_after before) e))

-- the workers leave the meters that file order leaves
module _ (s : BoardParts) (ds : Deliveries) (rs : List Record) (mid : BoardParts) (out : List ℕ)
    (fit : All (IsFitting s.cpus s.format) rs) (t : PhaseTold s ds rs mid out) where
  abbrev first : Meters
  first = meters_of s

  abbrev filed_to : Meters
  filed_to = after_records first rs

  legal : LegalFrom (Opened s ∷ []) t.opens.0
  legal = subst IsLegal t.opens.1 t.legal

  now : meters_of mid ≡ meters_after (Opened s ∷ t.opens.0)
  now = ap meters_of (t.leaves ∙ ap board_after t.opens.1)

  total : (f : ℕ → ℕ → Access → ℕ) → weigh (of_entry f) t.opens.0 ≡ weigh (of_record f) rs
  total f =
      let a = shown_exact s ds (of_entry f) (of_record f) rs t.h 0 s.cpus out (exact s f) t.shown in
      let b = part_whole (of_entry f) s.cpus t.h (λ z. refl) t.none_else in
      let c = rpart_whole (of_record f) s.cpus s.format rs fit in
      let e = ap (weigh (of_entry f)) t.opens.1 in omega arith

  same_number : (n : ℕ) (q : Meters → ℕ) (f : ℕ → ℕ → Access → ℕ) (k most : ℕ) → Raises n q f k most → n ≤ length first.versions
      → q filed_to ≡ q (meters_of mid)
  same_number n q f k most r small =
      let a = filed n q f k most r first rs small in
      let b = raised n q f k most r (Opened s ∷ []) t.opens.0 legal small in
      let c = ap q now in
      let d = ap (λ (w : ℕ). q first + k * w) (total f) in omega arith

  fixed : fixed_of filed_to ≡ fixed_of (meters_of mid)
  fixed = fixed_records first rs ∙ sym (ap fixed_of now ∙ fixed_entries (Opened s ∷ []) t.opens.0 legal)

  places : length filed_to.versions ≡ length first.versions
  places = λ i. (fixed_records first rs i).3

  same_pages : filed_to.versions ≡ (meters_of mid).versions
  same_pages = ext_get_or 0 filed_to.versions (meters_of mid).versions (λ i. (fixed i).3)
      (λ k less. same_number (suc k) (λ m. get_or m.versions k 0) (publishes k) 2 _ (raises_page k) (let p = places in omega arith))

  -- one host's count is no more than the other, both ways
  reached : (x : ℕ) → Reaches x first (meters_of mid) (weigh (of_entry (past x)) t.opens.0)
  reached x = subst (λ (m : Meters). Reaches x first m (weigh (of_entry (past x)) t.opens.0)) (sym now) (reaches_entries x (Opened s ∷ []) t.opens.0 legal)

  host_le : filed_to.host ≤ (meters_of mid).host
  host_le =
      let x = (meters_of mid).host in
      let l = (reached x).low (omega arith) in
      (reaches_records x first rs).high l.0 (sym (total (past x)) ∙ l.1)

  host_ge : (meters_of mid).host ≤ filed_to.host
  host_ge =
      let x = filed_to.host in
      let l = (reaches_records x first rs).low (omega arith) in
      (reached x).high l.0 (total (past x) ∙ l.1)

  same_host : filed_to.host ≡ (meters_of mid).host
  same_host = let l = host_le in let g = host_ge in omega arith

  pub phase_alike : filed_to ≡ meters_of mid
  phase_alike = λ i. record {
    format = (fixed i).0;
    cpus = (fixed i).1;
    anchor = (fixed i).2;
    host = same_host i;
    accesses = same_number 0 (λ m. m.accesses) any_access 1 _ raises_accesses (omega arith) i;
    wall_version = same_number 0 (λ m. m.wall_version) publishes_words 2 _ raises_wall (omega arith) i;
    hv_version = same_number 0 (λ m. m.hv_version) publishes_reference 2 _ raises_hv (omega arith) i;
    versions = same_pages i;
  }
