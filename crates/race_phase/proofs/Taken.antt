-- No worker has stopped: what file order takes, any order takes.
use Rattle.std.proofs.Common.{
  ◌≡◌,
  ◌⊎◌,
  inl,
  inr,
  ⊎_elim,
  ℕ,
  suc,
  ◌+◌,
  ◌*◌,
  ◌^◌,
  ◌<◌,
  ◌≤◌,
  List,
  [],
  ◌∷◌,
  ◌++◌,
  length,
  refl,
  sym,
  ap,
  ◌∙◌,
  subst,
  arith,
  Bool,
  true,
  Option,
  Some,
  None,
  IsSome,
  IsTrue,
  if◌then◌else◌,
  All,
  eq-eqb,
  option_map,
}
use Rattle.std.specs.Option.{option_or}
use Rattle.std.proofs.Math.Nat.{mul-le-mul_left}
use mathlib.Core.List.{IsPrefix}
use Rattle.host_counter.specs.declared.Anchor.{Anchor}
use Rattle.host_counter.specs.declared.TimeFault.{TimeFault}
use Rattle.trace_blocks.specs.declared.deliveries.Deliveries.{Deliveries}
use Rattle.board_types.specs.declared.access.Access.{Access}
use Rattle.board_types.specs.declared.parts.BoardParts.{BoardParts}
use Rattle.board_types.specs.declared.parts.TheConstants.{LAST_VERSION, MOST_ACCESSES}
use Rattle.board_types.specs.declared.reply.Refusal.{Refusal}
use Rattle.board_types.specs.Legal.{is_legal}
use Rattle.board_meters.specs.Published.{published_by}
use Rattle.host_counter.specs.Time.{time_fault}
use Rattle.host_counter.proofs.Times.{no_fault-of_time}
use Rattle.board_meters.specs.Published.{publishes_wall}
use Rattle.board_meters.specs.Published.{publishes_hv}
use Rattle.board_core.specs.Conditions.{IsJoined}
use Rattle.std.proofs.Common.{get_or}
use Rattle.std.proofs.lemmas.List.{length-map}
use Rattle.board_meters.specs.declared.meters.Meters.{Meters}
use Rattle.board_meters.specs.Meters.{refusal_in}
use Rattle.board_meters.proofs.Taken.{taken_time}
use Rattle.board_core.specs.Refusals.{meters_of}
use Rattle.board_core.proofs.Metered.{version, version_of}
use Rattle.board_core.proofs.Joined.{most-cpus}
use Rattle.board_history.specs.Machine.{Machine}
use Rattle.board_history.specs.Counts.{IsAtLastVersion}
use Rattle.board_history.specs.History.{LegalFrom, IsLegal, Opens}
use Rattle.board_history.specs.declared.entry.Entry.{Entry}
use Rattle.board_history.specs.declared.entry.Entry.TheVariants.{Opened}
use Rattle.board_history.proofs.Laws.{machine-stays}
use Rattle.board_history.proofs.Pages.{published_by-legal}
use Rattle.board_history.proofs.Refusals.{refused_why}
use Rattle.shared_board.specs.declared.known.PassKnown.{PassKnown}
use Rattle.shared_board.specs.Faults.{page_reads}
use Rattle.shared_board.specs.Stops.{StopTold}
use Rattle.reply_text.specs.declared.ends.Refused.{Refused}
use Rattle.trace_records.specs.declared.Call.{Call}
use Rattle.trace_records.specs.declared.Call.TheVariants.{Act, ReadPage, ReadClock, ReadHv}
use Rattle.trace_blocks.specs.declared.records.Record.{Record}
use Rattle.trace_records.specs.Calls.{IsFittingCall}
use Rattle.race_phase.specs.Calls.{IsFitting, Shown}
use Rattle.race_phase.specs.private.Ran.{PhaseTold}
use Rattle.race_phase.specs.Order.{
  record_refusal,
  after_call,
  after_record,
  after_records,
  records_refusal,
}
use Rattle.trace_blocks.specs.Refusals.{refused_access, refused_fault, count_refusal, call_refusal}
use Rattle.race_phase.specs.private.Workers.{CallTrouble, AllWorked}
use Rattle.race_phase.proofs.Counts.{
  weigh,
  weigh-append,
  weigh_one,
  weigh_none,
  of_entry,
  of_call,
  of_record,
  reads,
  reads_weigh,
  Raises,
  any_access,
  raises_accesses,
  is_page,
  publishes,
  raises_page,
  publishes_words,
  publishes_reference,
  raises_wall,
  raises_hv,
  raised,
  length-raised,
  meters_after,
  AllBelow,
  part_whole,
}
use Rattle.race_phase.proofs.Settle.{rpart_whole, Covers, exact, reads_cover, Stuck, settle}

-- each of these records is taken in file order
abbrev pub IsFree : Meters → List Record → Type 0
IsFree m [] = Unit {0}
IsFree m (r ∷ rs) = (call_refusal m r.cpu r.h r.call ≡ None) × IsFree (after_record m r) rs

pub or_none : (o q : Option Refused) → option_or o q ≡ None → (o ≡ None) × (q ≡ None)
or_none None q e = (refl, e)
or_none (Some f) q e = absurd (cc e)

pub access_none : (o : Option Refusal) → option_map refused_access o ≡ None → o ≡ None
access_none None e = refl
access_none (Some refusal) e = absurd (cc e)

pub free_of : (m : Meters) (rs : List Record) → records_refusal m rs ≡ None → IsFree m rs
free_of m [] e = tt
free_of m (r ∷ rs) e =
    let t = or_none (record_refusal m r) (records_refusal (after_record m r) rs) e in
    (t.0, free_of (after_record m r) rs t.1)

places_call : (m : Meters) (cpu h : ℕ) (call : Call) → length (after_call m cpu h call).versions ≡ length m.versions
places_call m cpu h (Act a) = length-raised (published_by cpu a) m.versions
places_call m cpu h _ = refl

module _ (n : ℕ) (q : Meters → ℕ) (f : ℕ → ℕ → Access → ℕ) (k most : ℕ) (r : Raises n q f k most) where
  raised_call : (m : Meters) (cpu h : ℕ) (call : Call) → n ≤ length m.versions → q (after_call m cpu h call) ≡ q m + k * of_call f cpu h call
  raised_call m cpu h (Act a) l = r.access m cpu h a l
  raised_call m cpu h _ l = omega arith

  -- file order raises the number by the weight of its records
  pub filed : (m : Meters) (rs : List Record) → n ≤ length m.versions → q (after_records m rs) ≡ q m + k * weigh (of_record f) rs
  filed m [] l = omega arith
  filed m (x ∷ rs) l =
      let places = places_call m x.cpu x.h x.call in
      let one = raised_call m x.cpu x.h x.call l in
      let rest = filed (after_record m x) rs (omega arith) in omega arith

  room_call : (m : Meters) (cpu h : ℕ) (call : Call) → call_refusal m cpu h call ≡ None → q m ≤ most → q m + k * of_call f cpu h call ≤ most
  room_call m cpu h (Act a) free l = r.room m cpu h a (access_none (refusal_in m cpu h a) free) l
  room_call m cpu h _ free l = omega arith

  -- and leaves room for all of them
  pub room_all : (m : Meters) (rs : List Record) → IsFree m rs → n ≤ length m.versions → q m ≤ most → q m + k * weigh (of_record f) rs ≤ most
  room_all m [] free small l = omega arith
  room_all m (x ∷ rs) free small l =
      let places = places_call m x.cpu x.h x.call in
      let one = raised_call m x.cpu x.h x.call small in
      let room = room_call m x.cpu x.h x.call free.0 l in
      let rest = room_all (after_record m x) rs free.1 (omega arith) (omega arith) in omega arith

-- records whose count has no time
abbrev one_fault : Option TimeFault → ℕ
one_fault None = 0
one_fault (Some fault) = 1

untimed : Anchor → Record → ℕ
untimed anchor r = one_fault (time_fault anchor r.h)

no_fault : (o : Option TimeFault) → option_map refused_fault o ≡ None → o ≡ None
no_fault None e = refl
no_fault (Some fault) e = absurd (cc e)

timed_call : (m : Meters) (cpu h : ℕ) (call : Call) → call_refusal m cpu h call ≡ None → time_fault m.anchor h ≡ None
unfolding count_refusal
timed_call m cpu h (Act a) e = no_fault-of_time m.anchor h (taken_time m cpu h a (access_none (refusal_in m cpu h a) e))
timed_call m cpu h (ReadPage page) e = no_fault (time_fault m.anchor h) e
timed_call m cpu h (ReadClock page) e = no_fault (time_fault m.anchor h) e
timed_call m cpu h ReadHv e = no_fault (time_fault m.anchor h) e

anchor_call : (m : Meters) (cpu h : ℕ) (call : Call) → (after_call m cpu h call).anchor ≡ m.anchor
anchor_call m cpu h (Act a) = refl
anchor_call m cpu h _ = refl

-- each record that is taken has its time
all_timed : (anchor : Anchor) (m : Meters) (rs : List Record) → m.anchor ≡ anchor → IsFree m rs → weigh (untimed anchor) rs ≡ 0
unfolding untimed
all_timed anchor m [] same free = refl
all_timed anchor m (r ∷ rs) same free =
    let here : time_fault anchor r.h ≡ None = ap (λ (x : Anchor). time_fault x r.h) (sym same) ∙ timed_call m r.cpu r.h r.call free.0 in
    let none : untimed anchor r ≡ 0 = ap one_fault here in
    let rest = all_timed anchor (after_record m r) rs (anchor_call m r.cpu r.h r.call ∙ same) free.1 in omega arith

untimed_one : (anchor : Anchor) (r : Record) → IsSome (time_fault anchor r.h) → untimed anchor r ≡ 1
unfolding untimed
untimed_one anchor r some = by (time_fault anchor r.h) some
  where
    by : (o : Option TimeFault) → IsSome o → one_fault o ≡ 1
    by None some = absurd (cc some)
    by (Some fault) some = refl

-- what a pass has seen begins as the history does
pub record SeenPart (s : BoardParts) (seen later : List Entry) : Type 0 where
  pub es : List Entry
  pub is : seen ≡ Opened s ∷ es
  pub legal : LegalFrom (Opened s ∷ []) es
  pub rest : List Entry
  pub whole : es ++ rest ≡ later

seen_part : (s : BoardParts) (seen later : List Entry) → IsLegal seen → IsPrefix seen (Opened s ∷ later) → SeenPart s seen later
seen_part s [] later l p = absurd l
seen_part s (Opened z ∷ es) later l p =
    let same : z ≡ s = cc p.1 in
    record {
      es = es;
      is = ap (λ (b : BoardParts). Opened b ∷ es) same;
      legal = subst (λ (b : BoardParts). LegalFrom (Opened b ∷ []) es) same l;
      rest = p.0;
      whole = cc p.1;
    }
seen_part s _ later l p = absurd l

-- what is true of the meters of each board
pub record IsSound (m : Meters) : Type 0 where
  pub places : m.cpus ≤ length m.versions
  pub count : m.accesses ≤ MOST_ACCESSES
  pub pages : (c : ℕ) → get_or m.versions c 0 ≤ LAST_VERSION
  pub wall : m.wall_version ≤ LAST_VERSION
  pub hv : m.hv_version ≤ LAST_VERSION

pub sound_of : (b : BoardParts) → IsJoined b → length b.processors ≡ 64 → IsSound (meters_of b)
unfolding meters_of
sound_of b joined long = record {
  places = (let m = most-cpus b.format b.cpus b.hpet.timers joined.format in let l = length-map b.processors version in omega arith);
  count = joined.accesses;
  pages = λ c. (let same = version_of b.processors c in let most = (joined.processors.each c).version.most in omega arith);
  wall = joined.wall.words.most;
  hv = joined.hv.version.most;
}

-- no entry changes the anchor
anchor-stays : (before xs : List Entry) → LegalFrom before xs → (meters_after (before ++ xs)).anchor ≡ (meters_after before).anchor
unfolding meters_of
anchor-stays before xs legal = ap (λ (m : Machine). m.anchor) (machine-stays before xs legal)

module _ (s : BoardParts) (rs : List Record) (h : List Entry) (sound : IsSound (meters_of s)) (legal : IsLegal h) (opens : Opens s h) (below : AllBelow s.cpus h)
    (fit : All (IsFitting s.cpus s.format) rs) (free : IsFree (meters_of s) rs) (few : length rs ≤ 2 ^ 62) (k : Stuck s rs h 0 s.cpus) where
  sp : SeenPart s k.pass.seen opens.0
  sp = seen_part s k.pass.seen opens.0 k.legal (subst (IsPrefix k.pass.seen) opens.1 k.begins)

  -- what had been seen weighs less than all records, by the next
  less : (w : Entry → ℕ) (v : Record → ℕ) → ((z : BoardParts) → w (Opened z) ≡ 0) → Covers s w v → weigh w sp.es + v k.next ≤ weigh v rs
  less w v none covers =
      let a = k.below w v covers in
      let b = part_whole w s.cpus h none below in
      let d = rpart_whole v s.cpus s.format rs fit in
      let e = ap (weigh w) opens.1 in
      let z = none s in
      let f : weigh w sp.es + weigh w sp.rest ≡ weigh w opens.0 = sym (weigh-append w sp.es sp.rest) ∙ ap (weigh w) sp.whole in omega arith

  anchor_of : (meters_of s).anchor ≡ s.anchor
  unfolding meters_of
  anchor_of = refl

  -- the next record has its time
  timed : IsSome (time_fault s.anchor k.next.h) → ⊥
  timed n =
      let a = less (λ e. 0) (untimed s.anchor) (λ z. refl) (λ n r a es m. (let e = weigh_none es in omega arith)) in
      let b = all_timed s.anchor (meters_of s) rs anchor_of free in
      let c = untimed_one s.anchor k.next n in absurd (omega arith)

  unread : IsSome (time_fault s.anchor k.next.h) ⊎ (2 ^ 63 ≤ page_reads k.pass.seen) → ⊥
  unread (inl n) = timed n
  unread (inr full) =
      let a = less reads (λ r. 1) (λ z. refl) (reads_cover s) in
      let b = weigh_one rs in
      let c = reads_weigh k.pass.seen in
      let d = ap (weigh reads) sp.is in absurd (omega arith)

  -- a number that is not yet at its most
  module _ (n : ℕ) (q : Meters → ℕ) (f : ℕ → ℕ → Access → ℕ) (x most : ℕ) (r : Raises n q f x most) (small : n ≤ length (meters_of s).versions)
      (low : q (meters_of s) ≤ most) where
    not_full : q (meters_after k.pass.seen) + x * of_record f k.next ≤ most
    not_full =
        let a = less (of_entry f) (of_record f) (λ z. refl) (λ n r a es m. (let e = exact s f n r a es m in omega arith)) in
        let b = raised n q f x most r (Opened s ∷ []) sp.es sp.legal small in
        let e = ap (λ l. q (meters_after l)) sp.is in
        let room = room_all n q f x most r (meters_of s) rs free small low in
        let more = mul-le-mul_left x a in omega arith

  anchor_is : (meters_after k.pass.seen).anchor ≡ s.anchor
  anchor_is = ap (λ l. (meters_after l).anchor) sp.is ∙ anchor-stays (Opened s ∷ []) sp.es sp.legal ∙ anchor_of

  accesses_left : (a : Access) → k.next.call ≡ Act a → MOST_ACCESSES ≤ (meters_after k.pass.seen).accesses → ⊥
  accesses_left a is full =
      let l = not_full 0 (λ m. m.accesses) any_access 1 MOST_ACCESSES raises_accesses (omega arith) sound.count in
      let one : of_record any_access k.next ≡ 1 = ap (of_call any_access k.next.cpu k.next.h) is in absurd (omega arith)

  wall_left : (a : Access) → k.next.call ≡ Act a → publishes_wall a ≡ true → LAST_VERSION ≤ (meters_after k.pass.seen).wall_version → ⊥
  wall_left a is wall full =
      let w = sound.wall in
      let l = not_full 0 (λ m. m.wall_version) publishes_words 2 (LAST_VERSION + 1) raises_wall (omega arith) (omega arith) in
      let one : of_record publishes_words k.next ≡ 1 =
      ap (of_call publishes_words k.next.cpu k.next.h) is ∙ ap (λ (t : Bool). if t then 1 else 0) wall in absurd (omega arith)

  hv_left : (a : Access) → k.next.call ≡ Act a → publishes_hv a ≡ true → LAST_VERSION ≤ (meters_after k.pass.seen).hv_version → ⊥
  hv_left a is page full =
      let w = sound.hv in
      let l = not_full 0 (λ m. m.hv_version) publishes_reference 2 (LAST_VERSION + 1) raises_hv (omega arith) (omega arith) in
      let one : of_record publishes_reference k.next ≡ 1 =
      ap (of_call publishes_reference k.next.cpu k.next.h) is ∙ ap (λ (t : Bool). if t then 1 else 0) page in absurd (omega arith)

  places_is : s.cpus ≤ length (meters_of s).versions
  unfolding meters_of
  places_is = sound.places

  page_left : (a : Access) (c : ℕ) → k.next.call ≡ Act a → c < s.cpus → published_by k.next.cpu a ≡ Some c
      → LAST_VERSION ≤ get_or (meters_after k.pass.seen).versions c 0 → ⊥
  page_left a c is small by full =
      let p = sound.pages c in
      let places : s.cpus ≤ length (meters_of s).versions = places_is in
      let l = not_full (suc c) (λ m. get_or m.versions c 0) (publishes c) 2 (LAST_VERSION + 1) (raises_page c) (omega arith) (omega arith) in
      let one : of_record (publishes c) k.next ≡ 1 =
      ap (of_call (publishes c) k.next.cpu k.next.h) is ∙ (ap (is_page c) by ∙ ap (λ (t : Bool). if t then 1 else 0) (eq-eqb c c refl)) in absurd (omega arith)

  refused : (a : Access) (f : Refusal) → k.next.call ≡ Act a → IsTrue (is_legal s.cpus s.format a)
      → refusal_in (meters_after k.pass.seen) k.next.cpu k.next.h a ≡ Some f → ⊥
  refused a f is takes met = by_cause (refused_why (meters_after k.pass.seen) k.next.cpu k.next.h a f met)
    where
      by_cause : IsSome (time_fault (meters_after k.pass.seen).anchor k.next.h)
          ⊎ (IsAtLastVersion (meters_after k.pass.seen) k.next.cpu a ⊎ (MOST_ACCESSES ≤ (meters_after k.pass.seen).accesses)) → ⊥
      by_cause (inl n) = timed (subst (λ (x : Anchor). IsSome (time_fault x k.next.h)) anchor_is n)
      by_cause (inr (inl (inl w))) = wall_left a is w.0 w.1
      by_cause (inr (inl (inr (inr v)))) = hv_left a is v.0 v.1
      by_cause (inr (inl (inr (inl p)))) = page_left a p.0 is (published_by-legal s.cpus s.format k.next.cpu p.0 a k.fits.0 takes p.1) p.1 p.2
      by_cause (inr (inr full)) = accesses_left a is full

  -- no worker has stopped
  pub none_stuck : ⊥
  none_stuck = by_call k.next.call refl k.fits.1 k.met
    where
      by_call : (call : Call) → k.next.call ≡ call → IsFittingCall s.cpus s.format call → CallTrouble s k.next.cpu k.next.h call k.pass.seen → ⊥
      by_call (Act a) is takes met = refused a met.0 is takes met.1
      by_call _ is there met = unread met

-- what a stopped board says of its workers
pub phase_told : (s state : BoardParts) (ds : Deliveries) (rs : List Record) (ps : List PassKnown) (out : List ℕ) → IsSound (meters_of s) → length ps ≡ s.cpus
    → All (IsFitting s.cpus s.format) rs → records_refusal (meters_of s) rs ≡ None → length rs ≤ 2 ^ 62
    → StopTold s s.cpus state ps → AllWorked s ds rs 0 ps out → PhaseTold s ds rs state out
phase_told s state ds rs ps out sound len fit free few told all =
    let either = subst (λ (k : ℕ). Shown s ds rs told.0 0 k out ⊎ Stuck s rs told.0 0 k) len (settle s ds rs told.0 0 ps out all told.4) in record {
      h = told.0;
      legal = told.1;
      opens = told.2;
      leaves = told.3;
      none_else = told.5;
      shown = ⊎_elim (λ (x : Shown s ds rs told.0 0 s.cpus out). x)
          (λ (k : Stuck s rs told.0 0 s.cpus). absurd (none_stuck s rs told.0 sound told.1 told.2 told.5 fit (free_of (meters_of s) rs free) few k)) either;
    }
