-- Weights of entries and of records, and the numbers of a board that rise with them.
use Rattle.std.proofs.Common.{
  ◌≡◌,
  ℕ,
  zero,
  suc,
  ◌+◌,
  ◌*◌,
  ◌<◌,
  ◌≤◌,
  eqb,
  List,
  [],
  ◌∷◌,
  ◌++◌,
  length,
  refl,
  sym,
  ap,
  ◌∙◌,
  arith,
  append_assoc,
  append-nil,
  Bool,
  true,
  false,
  Option,
  Some,
  None,
  eq-eqb,
  ne_eqb,
  if◌then◌else◌,
}
use Rattle.std.proofs.lemmas.Bool.{eqb-true}
use native.Mathlib.Decide.{ℕ_discrete, dec_le}
use Rattle.std.proofs.Common.{get_or, length-set}
use Rattle.std.proofs.lemmas.Grind.{get_or-set_at}
use Rattle.std.proofs.lemmas.List.{get_or-set_other}
use Rattle.board_types.specs.declared.access.Access.{Access}
use Rattle.board_types.specs.declared.parts.BoardParts.{BoardParts}
use Rattle.board_types.specs.declared.parts.TheConstants.{LAST_VERSION, MOST_ACCESSES}
use Rattle.board_meters.specs.declared.meters.Meters.{Meters}
use Rattle.board_meters.specs.Published.{published_by, publishes_wall, publishes_hv}
use Rattle.board_meters.specs.Meters.{refusal_in, raised_at, counted}
use Rattle.board_meters.proofs.Taken.{taken_accesses, taken_version, taken_wall, taken_hv, raised_page}
use Rattle.board_core.specs.Refusals.{meters_of}
use Rattle.board_core.proofs.Laws.{meters_of-access, meters_of-greatest}
use Rattle.board_history.specs.History.{after_entry, board_after, May, LegalFrom, is_of, entries_of}
use Rattle.board_history.specs.declared.entry.Entry.{Entry}
use Rattle.board_history.specs.declared.entry.Entry.TheVariants.{Opened, Board, PageRead, HvRead, Clamp}
use Rattle.board_history.proofs.Laws.{board_after-snoc}
use Rattle.shared_board.specs.Faults.{page_reads}
use Rattle.trace_records.specs.declared.Call.{Call}
use Rattle.trace_records.specs.declared.Call.TheVariants.{Act}
use Rattle.trace_blocks.specs.declared.records.Record.{Record}

-- the weights of a list, added up
abbrev pub weigh : {A : Type 0} → (A → ℕ) → List A → ℕ
weigh w [] = 0
weigh w (x ∷ xs) = w x + weigh w xs

pub weigh-append : {A : Type 0} (w : A → ℕ) (xs ys : List A) → weigh w (xs ++ ys) ≡ weigh w xs + weigh w ys
weigh-append w [] ys = omega arith
weigh-append w (x ∷ xs) ys = let e = weigh-append w xs ys in omega arith

pub weigh_one : {A : Type 0} (xs : List A) → weigh (λ (x : A). 1) xs ≡ length xs
weigh_one [] = refl
weigh_one (x ∷ xs) = let e = weigh_one xs in omega arith

pub weigh_none : {A : Type 0} (xs : List A) → weigh (λ (x : A). 0) xs ≡ 0
weigh_none [] = refl
weigh_none (x ∷ xs) = let e = weigh_none xs in omega arith

-- the weight of an entry, and of a record, by a weight of accesses
abbrev pub of_entry : (ℕ → ℕ → Access → ℕ) → Entry → ℕ
of_entry f (Opened s) = 0
of_entry f (Board pass cpu h access reply) = f cpu h access
of_entry f _ = 0

abbrev pub of_call : (ℕ → ℕ → Access → ℕ) → ℕ → ℕ → Call → ℕ
of_call f cpu h (Act a) = f cpu h a
of_call f cpu h _ = 0

abbrev pub of_record : (ℕ → ℕ → Access → ℕ) → Record → ℕ
of_record f r = of_call f r.cpu r.h r.call

-- reads of pages
abbrev pub reads : Entry → ℕ
reads (Opened s) = 0
reads (Board pass cpu h access reply) = 0
reads (PageRead pass cpu h page locked) = 1
reads (HvRead pass h page locked) = 1
reads (Clamp pass cpu reading clock) = 0

pub reads_weigh : (es : List Entry) → page_reads es ≡ weigh reads es
reads_weigh [] = refl
reads_weigh (Opened s ∷ es) = let i = reads_weigh es in omega arith
reads_weigh (Board pass cpu h access reply ∷ es) = let i = reads_weigh es in omega arith
reads_weigh (PageRead pass cpu h page locked ∷ es) = let i = reads_weigh es in omega arith
reads_weigh (HvRead pass h page locked ∷ es) = let i = reads_weigh es in omega arith
reads_weigh (Clamp pass cpu reading clock ∷ es) = let i = reads_weigh es in omega arith

-- a number of meters with n pages that each access raises by k times its weight, and that no access which is taken
-- raises past the most
pub record Raises (n : ℕ) (q : Meters → ℕ) (f : ℕ → ℕ → Access → ℕ) (k most : ℕ) : Type 0 where
  pub access : (m : Meters) (cpu h : ℕ) (a : Access) → n ≤ length m.versions → q (counted cpu h a m) ≡ q m + k * f cpu h a
  pub room : (m : Meters) (cpu h : ℕ) (a : Access) → refusal_in m cpu h a ≡ None → q m ≤ most → q m + k * f cpu h a ≤ most

-- the number of accesses
abbrev pub any_access : ℕ → ℕ → Access → ℕ
any_access cpu h a = 1

pub raises_accesses : Raises 0 (λ m. m.accesses) any_access 1 MOST_ACCESSES
raises_accesses = record {
  access = λ m cpu h a l. omega arith;
  room = λ m cpu h a taken l. (let few = taken_accesses m cpu h a taken in omega arith);
}

-- the version of a page
abbrev pub is_page : ℕ → Option ℕ → ℕ
is_page c None = 0
is_page c (Some d) = if eqb d c then 1 else 0

abbrev pub publishes : ℕ → ℕ → ℕ → Access → ℕ
publishes c cpu h a = is_page c (published_by cpu a)

raised_page_is : (o : Option ℕ) (vs : List ℕ) (c : ℕ) → suc c ≤ length vs → get_or (raised_at o vs) c 0 ≡ get_or vs c 0 + 2 * is_page c o
raised_page_is None vs c l = omega arith
raised_page_is (Some d) vs c l = elim (ℕ_discrete c d) [
  | yes same ↦
      let one : is_page c (Some d) ≡ 1 = ap (λ (t : Bool). if t then 1 else 0) (eq-eqb d c (sym same)) in
      let here = get_or-set_at vs d c (get_or vs d 0 + 2) 0 same (omega arith) in
      let old : get_or vs d 0 ≡ get_or vs c 0 = ap (λ (j : ℕ). get_or vs j 0) (sym same) in omega arith
  | no apart ↦
      let none : is_page c (Some d) ≡ 0 = ap (λ (t : Bool). if t then 1 else 0) (ne_eqb d c (λ e. apart (sym e))) in
      let other = get_or-set_other vs d c (get_or vs d 0 + 2) 0 apart in omega arith
]

version_room : (m : Meters) (cpu h c : ℕ) (a : Access) → refusal_in m cpu h a ≡ None → get_or m.versions c 0 ≤ LAST_VERSION + 1
    → get_or m.versions c 0 + 2 * publishes c cpu h a ≤ LAST_VERSION + 1
version_room m cpu h c a taken l = by_page (published_by cpu a) refl
  where
    by_page : (o : Option ℕ) → published_by cpu a ≡ o → get_or m.versions c 0 + 2 * is_page c o ≤ LAST_VERSION + 1
    by_page None e = omega arith
    by_page (Some d) e = by_test (eqb d c) refl
      where
        by_test : (t : Bool) → eqb d c ≡ t → get_or m.versions c 0 + 2 * (if t then 1 else 0) ≤ LAST_VERSION + 1
        by_test true is =
            let some : published_by cpu a ≡ Some c = e ∙ ap (λ (n : ℕ). Some n) (eqb-true d c is) in
            let v = raised_page m cpu a (taken_version m cpu h a taken) c some in omega arith
        by_test false is = omega arith

pub raises_page : (c : ℕ) → Raises (suc c) (λ m. get_or m.versions c 0) (publishes c) 2 (LAST_VERSION + 1)
raises_page c = record {
  access = λ m cpu h a l. raised_page_is (published_by cpu a) m.versions c l;
  room = λ m cpu h a taken l. version_room m cpu h c a taken l;
}

-- the version of the wall clock's words, and that of the reference page
abbrev pub publishes_words : ℕ → ℕ → Access → ℕ
publishes_words cpu h a = if publishes_wall a then 1 else 0

abbrev pub publishes_reference : ℕ → ℕ → Access → ℕ
publishes_reference cpu h a = if publishes_hv a then 1 else 0

raised_is : (t : Bool) (v : ℕ) → (if t then v + 2 else v) ≡ v + 2 * (if t then 1 else 0)
raised_is true v = omega arith
raised_is false v = omega arith

raised_room : (t : Bool) (v : ℕ) → (t ≡ true → v < LAST_VERSION) → v ≤ LAST_VERSION + 1 → v + 2 * (if t then 1 else 0) ≤ LAST_VERSION + 1
raised_room true v less l = let below = less refl in omega arith
raised_room false v less l = omega arith

pub raises_wall : Raises 0 (λ m. m.wall_version) publishes_words 2 (LAST_VERSION + 1)
raises_wall = record {
  access = λ m cpu h a l. raised_is (publishes_wall a) m.wall_version;
  room = λ m cpu h a taken l. raised_room (publishes_wall a) m.wall_version (taken_wall m cpu h a taken) l;
}

pub raises_hv : Raises 0 (λ m. m.hv_version) publishes_reference 2 (LAST_VERSION + 1)
raises_hv = record {
  access = λ m cpu h a l. raised_is (publishes_hv a) m.hv_version;
  room = λ m cpu h a taken l. raised_room (publishes_hv a) m.hv_version (taken_hv m cpu h a taken) l;
}

-- the meters after a history
abbrev pub meters_after : List Entry → Meters
meters_after es = meters_of (board_after es)

-- .. after one entry more: they count an access, and nothing else
abbrev pub metered : Entry → Meters → Meters
metered (Board pass cpu h access reply) m = counted cpu h access m
metered _ m = m

pub meters_of-entry : (before : List Entry) (e : Entry) → May before e → meters_after (before ++ e ∷ []) ≡ metered e (meters_after before)
meters_of-entry before e may = ap meters_of (board_after-snoc before e) ∙ by e may
  where
    by : (e : Entry) → May before e → meters_of (after_entry (board_after before) e) ≡ metered e (meters_after before)
    by (Opened s) may = absurd may
    by (Board pass cpu h access reply) may = meters_of-access (board_after before) cpu h access
    by (PageRead pass cpu h page locked) may = refl
    by (HvRead pass h page locked) may = refl
    by (Clamp pass cpu reading clock) may = meters_of-greatest (board_after before) clock

-- an access keeps how many pages there are
pub length-raised : (o : Option ℕ) (vs : List ℕ) → length (raised_at o vs) ≡ length vs
length-raised None vs = refl
length-raised (Some k) vs = length-set vs k (get_or vs k 0 + 2)

places-metered : (e : Entry) (m : Meters) → length (metered e m).versions ≡ length m.versions
places-metered (Board pass cpu h access reply) m = length-raised (published_by cpu access) m.versions
places-metered _ m = refl

-- a history raises the number by the weight of its entries
module _ (n : ℕ) (q : Meters → ℕ) (f : ℕ → ℕ → Access → ℕ) (k most : ℕ) (r : Raises n q f k most) where
  raised-metered : (e : Entry) (m : Meters) → n ≤ length m.versions → q (metered e m) ≡ q m + k * of_entry f e
  raised-metered (Board pass cpu h access reply) m l = r.access m cpu h access l
  raised-metered (Opened s) m l = omega arith
  raised-metered (PageRead pass cpu h page locked) m l = omega arith
  raised-metered (HvRead pass h page locked) m l = omega arith
  raised-metered (Clamp pass cpu reading clock) m l = omega arith

  pub raised : (before xs : List Entry) → LegalFrom before xs → n ≤ length (meters_after before).versions
      → q (meters_after (before ++ xs)) ≡ q (meters_after before) + k * weigh (of_entry f) xs
  raised before [] l small = ap (λ h. q (meters_after h)) (append-nil before) ∙ omega arith
  raised before (x ∷ xs) l small =
      let here = meters_of-entry before x l.0 in
      let one : q (meters_after (before ++ x ∷ [])) ≡ q (meters_after before) + k * of_entry f x =
      ap q here ∙ raised-metered x (meters_after before) small in
      let places : length (meters_after (before ++ x ∷ [])).versions ≡ length (meters_after before).versions =
      ap (λ (m : Meters). length m.versions) here ∙ places-metered x (meters_after before) in
      let more : q (meters_after ((before ++ x ∷ []) ++ xs)) ≡ q (meters_after (before ++ x ∷ [])) + k * weigh (of_entry f) xs =
      raised (before ++ x ∷ []) xs l.1 (omega arith) in
      let same : q (meters_after ((before ++ x ∷ []) ++ xs)) ≡ q (meters_after (before ++ x ∷ xs)) =
      ap (λ h. q (meters_after h)) (append_assoc before (x ∷ []) xs) in
      omega arith

-- the weight of the entries of k numbers from n on
abbrev pub part : (Entry → ℕ) → List Entry → ℕ → ℕ → ℕ
part w h n zero = 0
part w h n (suc k) = weigh w (entries_of n h) + part w h (suc n) k

-- the weight x, counted where q is one of k numbers from n on
abbrev pub one : ℕ → ℕ → ℕ → ℕ → ℕ
one q x n zero = 0
one q x n (suc k) = (if eqb q n then x else 0) + one q x (suc n) k

one_past : (q x n k : ℕ) → q < n → one q x n k ≡ 0
one_past q x n zero l = refl
one_past q x n (suc k) l =
    let none : (if eqb q n then x else 0) ≡ 0 = ap (λ (t : Bool). if t then x else 0) (ne_eqb q n (λ e. omega arith)) in
    let rest = one_past q x (suc n) k (omega arith) in omega arith

pub one_there : (q x n k : ℕ) → n ≤ q → q < n + k → one q x n k ≡ x
one_there q x n zero low high = absurd (omega arith)
one_there q x n (suc k) low high = elim (ℕ_discrete q n) [
  | yes e ↦
      let here : (if eqb q n then x else 0) ≡ x = ap (λ (t : Bool). if t then x else 0) (eq-eqb q n e) in
      let rest = one_past q x (suc n) k (omega arith) in omega arith
  | no e ↦
      let none : (if eqb q n then x else 0) ≡ 0 = ap (λ (t : Bool). if t then x else 0) (ne_eqb q n e) in
      let rest = one_there q x (suc n) k (omega arith) (omega arith) in omega arith
]

weigh_if : (b : Bool) (w : Entry → ℕ) (e : Entry) (es : List Entry) → weigh w (if b then (e ∷ es) else es) ≡ (if b then w e else 0) + weigh w es
weigh_if true w e es = refl
weigh_if false w e es = omega arith

-- one entry more, of the number q
part-cons : (w : Entry → ℕ) (e : Entry) (q x : ℕ) (es : List Entry) (n k : ℕ) → ((m : ℕ) → (if is_of m e then w e else 0) ≡ (if eqb q m then x else 0))
    → part w (e ∷ es) n k ≡ one q x n k + part w es n k
part-cons w e q x es n zero same = refl
part-cons w e q x es n (suc k) same =
    let first = weigh_if (is_of n e) w e (entries_of n es) in
    let is = same n in
    let rest = part-cons w e q x es (suc n) k same in omega arith

-- one entry more, of no number
part-none : (w : Entry → ℕ) (e : Entry) (es : List Entry) (n k : ℕ) → ((m : ℕ) → is_of m e ≡ false) → part w (e ∷ es) n k ≡ part w es n k
part-none w e es n zero none = refl
part-none w e es n (suc k) none =
    let first : weigh w (entries_of n (e ∷ es)) ≡ weigh w (entries_of n es) =
    ap (λ (b : Bool). weigh w (if b then (e ∷ entries_of n es) else entries_of n es)) (none n) in
    let rest = part-none w e es (suc n) k none in omega arith

part-nil : (w : Entry → ℕ) (n k : ℕ) → part w [] n k ≡ 0
part-nil w n zero = refl
part-nil w n (suc k) = let e = part-nil w (suc n) k in omega arith

-- no entry has a number from m on
abbrev pub AllBelow : ℕ → List Entry → Type 0
AllBelow m es = (n : ℕ) → m ≤ n → entries_of n es ≡ []

if_nil : (b : Bool) (e : Entry) (es : List Entry) → (if b then (e ∷ es) else es) ≡ [] → es ≡ []
if_nil true e es k = absurd (cc k)
if_nil false e es k = k

below_rest : (m : ℕ) (e : Entry) (es : List Entry) → AllBelow m (e ∷ es) → AllBelow m es
below_rest m e es below n l = if_nil (is_of n e) e (entries_of n es) (below n l)

below_first : (m q : ℕ) (e : Entry) (es : List Entry) → is_of q e ≡ true → AllBelow m (e ∷ es) → q < m
below_first m q e es is below = elim (dec_le m q) [
  | yes l ↦ (let k : e ∷ entries_of q es ≡ [] = sym (ap (λ (b : Bool). if b then (e ∷ entries_of q es) else entries_of q es) is) ∙ below q l in absurd (cc k))
  | no l ↦ omega arith
]

numbered : (w : Entry → ℕ) (e : Entry) (q m : ℕ) (es : List Entry) → ((n : ℕ) → is_of n e ≡ eqb q n) → AllBelow m (e ∷ es)
    → part w es 0 m ≡ weigh w es → part w (e ∷ es) 0 m ≡ w e + weigh w es
numbered w e q m es is below rest =
    let l : q < m = below_first m q e es (is q ∙ eq-eqb q q refl) below in
    let one_is = one_there q (w e) 0 m (omega arith) (omega arith) in
    let add = part-cons w e q (w e) es 0 m (λ n. ap (λ (b : Bool). if b then w e else 0) (is n)) in omega arith

-- the parts of a history make up the whole
pub part_whole : (w : Entry → ℕ) (m : ℕ) (h : List Entry) → ((s : BoardParts) → w (Opened s) ≡ 0) → AllBelow m h → part w h 0 m ≡ weigh w h
part_whole w m [] zero_there below = part-nil w 0 m
part_whole w m (Opened s ∷ es) zero_there below =
    let rest = part_whole w m es zero_there (below_rest m (Opened s) es below) in
    let none = part-none w (Opened s) es 0 m (λ n. refl) in
    let z = zero_there s in omega arith
part_whole w m (Board pass cpu h access reply ∷ es) zero_there below =
    numbered w (Board pass cpu h access reply) pass m es (λ n. refl) below
    (part_whole w m es zero_there (below_rest m (Board pass cpu h access reply) es below))
part_whole w m (PageRead pass cpu h page locked ∷ es) zero_there below =
    numbered w (PageRead pass cpu h page locked) pass m es (λ n. refl) below
    (part_whole w m es zero_there (below_rest m (PageRead pass cpu h page locked) es below))
part_whole w m (HvRead pass h page locked ∷ es) zero_there below =
    numbered w (HvRead pass h page locked) pass m es (λ n. refl) below
    (part_whole w m es zero_there (below_rest m (HvRead pass h page locked) es below))
part_whole w m (Clamp pass cpu reading clock ∷ es) zero_there below =
    numbered w (Clamp pass cpu reading clock) pass m es (λ n. refl) below
    (part_whole w m es zero_there (below_rest m (Clamp pass cpu reading clock) es below))
