-- Laws of histories: what one entry, and what a list of them, does to the board.
use Rattle.std.proofs.Common.{
  ◌≡◌,
  ◌≢◌,
  ℕ,
  ◌≤◌,
  List,
  [],
  ◌∷◌,
  ◌++◌,
  refl,
  sym,
  ap,
  ◌∙◌,
  subst,
  arith,
  append_assoc,
  append-nil,
  Bool,
  true,
  false,
  if◌then◌else◌,
  Option,
  Some,
  eq-eqb,
  ne_eqb,
  ◌<◌,
  true≢false,
  eqb,
}
use Rattle.pvclock_page.specs.declared.page.Page.{Page}
use Rattle.std.proofs.lemmas.Bool.{eqb-true}
use Rattle.std.proofs.lemmas.List.Elements.{filter-append}
use Rattle.std.proofs.lemmas.List.Sums.{fold-append}
use Rattle.std.specs.List.{last_or}
use mathlib.Core.List.{IsPrefix}
use Rattle.std.proofs.Common.{zero, suc, get_or, replicate}
use Rattle.board_types.specs.declared.parts.BoardParts.{BoardParts}
use Rattle.board_types.specs.declared.parts.ProcessorParts.{ProcessorParts}
use Rattle.board_core.specs.Hv.{hv_in}
use Rattle.board_core.specs.Pages.{page_in}
use Rattle.board_core.specs.Tsc.{no_processor, processor_at}
use Rattle.hv_page.specs.Words.{as_page, of_page}
use Rattle.board_core.proofs.Laws.{after_access-kept_greatest}
use Rattle.board_history.specs.Machine.{Machine, machine_of, ratio_in, page_at, no_board}
use Rattle.tsc_scale.specs.Ratio.{ratio_of}
use Rattle.board_history.specs.History.{
  pass_of,
  after_entry,
  board_after,
  floor_after,
  version_after,
  is_of,
  entries_of,
  read_if,
  read_of,
  May,
  LegalFrom,
  IsLegal,
}
use Rattle.board_history.specs.private.Steady.{IsSteady}
use Rattle.board_history.specs.declared.entry.Entry.{Entry}
use Rattle.board_history.specs.declared.entry.Entry.TheVariants.{Opened, Board, PageRead, HvRead, Clamp}
use Rattle.board_history.proofs.Pages.{machine_of-access, version-access, access-steady, at-hv}

-- the board after one entry more
pub board_after-snoc : (xs : List Entry) (e : Entry) → board_after (xs ++ e ∷ []) ≡ after_entry (board_after xs) e
board_after-snoc xs e = fold-append after_entry no_board xs (e ∷ [])

-- no page of the board after no entry was published
get_or-replicate : (n c : ℕ) → get_or (replicate n no_processor) c no_processor ≡ no_processor
get_or-replicate zero c = refl
get_or-replicate (suc n) zero = refl
get_or-replicate (suc n) (suc c) = get_or-replicate n c

pub no_board-version : (c : ℕ) → version_after [] c ≡ 0
unfolding no_board
no_board-version c = by (eqb c 1)
  where
    by : (t : Bool) → (if t then as_page (hv_in no_board.hv) else page_in (processor_at no_board c)).version ≡ 0
    by true = refl
    by false = ap (λ (p : ProcessorParts). p.version) (get_or-replicate 64 c)

-- legality of one entry more, and of the rest after a prefix
pub LegalFrom-snoc : (before xs : List Entry) (e : Entry) → LegalFrom before xs → May (before ++ xs) e → LegalFrom before (xs ++ e ∷ [])
LegalFrom-snoc before [] e l may = (subst (λ h. May h e) (append-nil before) may, tt)
LegalFrom-snoc before (x ∷ xs) e l may =
    (l.0, LegalFrom-snoc (before ++ x ∷ []) xs e l.1 (subst (λ h. May h e) (sym (append_assoc before (x ∷ []) xs)) may))

pub LegalFrom-rest : (before xs ys : List Entry) → LegalFrom before (xs ++ ys) → LegalFrom (before ++ xs) ys
LegalFrom-rest before [] ys l = subst (λ h. LegalFrom h ys) (sym (append-nil before)) l
LegalFrom-rest before (x ∷ xs) ys l =
    subst (λ h. LegalFrom h ys) (append_assoc before (x ∷ []) xs) (LegalFrom-rest (before ++ x ∷ []) xs ys l.1)

pub LegalFrom-front : (before xs ys : List Entry) → LegalFrom before (xs ++ ys) → LegalFrom before xs
LegalFrom-front before [] ys l = tt
LegalFrom-front before (x ∷ xs) ys l = (l.0, LegalFrom-front (before ++ x ∷ []) xs ys l.1)

-- what one entry does: versions and the greatest reading never fall, the board stays steady, the machine the same
pub version-entry : (before : List Entry) (e : Entry) (c : ℕ) → May before e
    → (page_at (board_after before) c).version ≤ (page_at (after_entry (board_after before) e) c).version
version-entry before (Opened s) c may = absurd may
version-entry before (Board pass cpu h access reply) c may = version-access (board_after before) cpu h c access
version-entry before _ c may = omega arith

pub greatest-entry : (before : List Entry) (e : Entry) → May before e → floor_after before ≤ (after_entry (board_after before) e).greatest
greatest-entry before (Opened s) may = absurd may
greatest-entry before (Board pass cpu h access reply) may =
    let e = after_access-kept_greatest (board_after before) cpu h access in omega arith
greatest-entry before (PageRead pass cpu h page locked) may = omega arith
greatest-entry before (HvRead pass h page locked) may = omega arith
greatest-entry before (Clamp pass cpu reading clock) may = let e = may.1 in omega arith

pub steady-entry : (before : List Entry) (e : Entry) → IsSteady (board_after before) → May before e → IsSteady (after_entry (board_after before) e)
steady-entry before (Opened s) was may = absurd may
steady-entry before (Board pass cpu h access reply) was may =
    access-steady (board_after before) cpu h access was may.cpu_below may.legal may.taken
steady-entry before (PageRead pass cpu h page locked) was may = was
steady-entry before (HvRead pass h page locked) was may = was
steady-entry before (Clamp pass cpu reading clock) was may =
    record { places = was.places; rate = was.rate; pages = was.pages; count = was.count }

pub machine-entry : (before : List Entry) (e : Entry) → May before e
    → machine_of (after_entry (board_after before) e) ≡ machine_of (board_after before)
machine-entry before (Opened s) may = absurd may
machine-entry before (Board pass cpu h access reply) may = machine_of-access (board_after before) cpu h access
machine-entry before _ may = refl

-- and what a list of them does
pub versions-grow : (before xs : List Entry) (c : ℕ) → LegalFrom before xs → version_after before c ≤ version_after (before ++ xs) c
versions-grow before [] c l = subst (λ h. version_after before c ≤ version_after h c) (sym (append-nil before)) (omega arith)
versions-grow before (x ∷ xs) c l =
    let one : version_after before c ≤ version_after (before ++ x ∷ []) c =
    subst (λ (b : BoardParts). version_after before c ≤ (page_at b c).version) (sym (board_after-snoc before x)) (version-entry before x c l.0) in
    let more : version_after (before ++ x ∷ []) c ≤ version_after (before ++ x ∷ xs) c =
    subst (λ h. version_after (before ++ x ∷ []) c ≤ version_after h c) (append_assoc before (x ∷ []) xs)
    (versions-grow (before ++ x ∷ []) xs c l.1) in
    omega arith

pub floor-grows : (before xs : List Entry) → LegalFrom before xs → floor_after before ≤ floor_after (before ++ xs)
floor-grows before [] l = subst (λ h. floor_after before ≤ floor_after h) (sym (append-nil before)) (omega arith)
floor-grows before (x ∷ xs) l =
    let one : floor_after before ≤ floor_after (before ++ x ∷ []) =
    subst (λ (b : BoardParts). floor_after before ≤ b.greatest) (sym (board_after-snoc before x)) (greatest-entry before x l.0) in
    let more : floor_after (before ++ x ∷ []) ≤ floor_after (before ++ x ∷ xs) =
    subst (λ h. floor_after (before ++ x ∷ []) ≤ floor_after h) (append_assoc before (x ∷ []) xs) (floor-grows (before ++ x ∷ []) xs l.1) in
    omega arith

pub ratio-by : (b c : BoardParts) → machine_of b ≡ machine_of c → ratio_in b ≡ ratio_in c
ratio-by b c same = ap (λ (m : Machine). ratio_of m.guest_khz m.anchor.khz) same

pub machine-stays : (before xs : List Entry) → LegalFrom before xs → machine_of (board_after (before ++ xs)) ≡ machine_of (board_after before)
machine-stays before [] l = ap (λ h. machine_of (board_after h)) (append-nil before)
machine-stays before (x ∷ xs) l =
    sym (ap (λ h. machine_of (board_after h)) (append_assoc before (x ∷ []) xs))
    ∙ (machine-stays (before ++ x ∷ []) xs l.1 ∙ (ap machine_of (board_after-snoc before x) ∙ machine-entry before x l.0))

-- the rest of a legal history after a prefix that isn't empty
pub IsLegal-rest : (xs ys : List Entry) (x : Entry) → IsLegal (x ∷ xs ++ ys) → LegalFrom (x ∷ xs) ys
IsLegal-rest xs ys (Opened s) l = LegalFrom-rest (Opened s ∷ []) xs ys l
IsLegal-rest xs ys _ l = absurd l

-- what holds of any prefix of a legal history: versions and the greatest reading never fall
pub legal-version : (xs ys : List Entry) (c : ℕ) → IsPrefix xs ys → IsLegal ys → version_after xs c ≤ version_after ys c
legal-version [] ys c p l = let none = no_board-version c in omega arith
legal-version (x ∷ xs) ys c p l = subst (λ h. version_after (x ∷ xs) c ≤ version_after h c) p.1
    (versions-grow (x ∷ xs) p.0 c (IsLegal-rest xs p.0 x (subst IsLegal (sym p.1) l)))

pub no_board-floor : floor_after [] ≡ 0
unfolding no_board
no_board-floor = refl

pub legal-floor : (xs ys : List Entry) → IsPrefix xs ys → IsLegal ys → floor_after xs ≤ floor_after ys
legal-floor [] ys p l = omega (arith, no_board-floor)
legal-floor (x ∷ xs) ys p l =
    subst (λ h. floor_after (x ∷ xs) ≤ floor_after h) p.1 (floor-grows (x ∷ xs) p.0 (IsLegal-rest xs p.0 x (subst IsLegal (sym p.1) l)))

-- the entries of a number in two lists, one after the other
pub entries_of-++ : (n : ℕ) (xs ys : List Entry) → entries_of n (xs ++ ys) ≡ entries_of n xs ++ entries_of n ys
entries_of-++ n xs ys = filter-append (is_of n) xs ys

-- one entry is of its own number, and of no other
pub is_of-pass : (e : Entry) (p : ℕ) → pass_of e ≡ Some p → is_of p e ≡ true
is_of-pass (Opened s) p is = absurd (cc is)
is_of-pass (Board pass cpu h access reply) p is = let same : pass ≡ p = cc is in eq-eqb pass p same
is_of-pass (PageRead pass cpu h page locked) p is = let same : pass ≡ p = cc is in eq-eqb pass p same
is_of-pass (HvRead pass h page locked) p is = let same : pass ≡ p = cc is in eq-eqb pass p same
is_of-pass (Clamp pass cpu reading clock) p is = let same : pass ≡ p = cc is in eq-eqb pass p same

is_of-else : (e : Entry) (p n : ℕ) → is_of p e ≡ true → n ≢ p → is_of n e ≡ false
is_of-else (Opened s) p n is ne = refl
is_of-else (Board pass cpu h access reply) p n is ne = ne_eqb pass n (λ e. ne (sym e ∙ eqb-true pass p is))
is_of-else (PageRead pass cpu h page locked) p n is ne = ne_eqb pass n (λ e. ne (sym e ∙ eqb-true pass p is))
is_of-else (HvRead pass h page locked) p n is ne = ne_eqb pass n (λ e. ne (sym e ∙ eqb-true pass p is))
is_of-else (Clamp pass cpu reading clock) p n is ne = ne_eqb pass n (λ e. ne (sym e ∙ eqb-true pass p is))

pub entries_of-own : (e : Entry) (p : ℕ) → is_of p e ≡ true → entries_of p (e ∷ []) ≡ e ∷ []
entries_of-own e p is = ap (λ (b : Bool). if b then (e ∷ []) else []) is

pub entries_of-else : (e : Entry) (p n : ℕ) → is_of p e ≡ true → n ≢ p → entries_of n (e ∷ []) ≡ []
entries_of-else e p n is ne = ap (λ (b : Bool). if b then (e ∷ []) else []) (is_of-else e p n is ne)

-- the entry of a read of a page: its number, what it leaves, and where it may come
pub read_of-number : (cpus pass c h n : ℕ) (page : Page) (locked : Bool) → is_of n (read_of cpus pass c h page locked) ≡ (eqb pass n)
read_of-number cpus pass c h n page locked = by (eqb c cpus)
  where
    by : (b : Bool) → is_of n (read_if b pass c h page locked) ≡ eqb pass n
    by true = refl
    by false = refl

pub read_of-leaves : (b : BoardParts) (cpus pass c h : ℕ) (page : Page) (locked : Bool) → after_entry b (read_of cpus pass c h page locked) ≡ b
read_of-leaves b cpus pass c h page locked = by (eqb c cpus)
  where
    by : (t : Bool) → after_entry b (read_if t pass c h page locked) ≡ b
    by true = refl
    by false = refl

pub read_of-may : (before : List Entry) (cpus pass c h : ℕ) (page : Page) (locked : Bool) → (board_after before).cpus ≡ cpus → c ≤ cpus
    → page_at (board_after before) c ≡ page → May before (read_of cpus pass c h page locked)
read_of-may before cpus pass c h page locked same small is = by (eqb c cpus) refl
  where
    by : (t : Bool) → eqb c cpus ≡ t → May before (read_if t pass c h page locked)
    by true e = ap of_page (sym (at-hv (board_after before) c (eqb-true c cpus e ∙ sym same)) ∙ is)
    by false e = ((let ne : c ≢ cpus = λ z. true≢false (sym (eq-eqb c cpus z) ∙ e) in omega (arith, ne)), is)

-- the page of a processor is not the reference page
pub read_of-page : (cpus pass c h : ℕ) (page : Page) (locked : Bool) → c < cpus → read_of cpus pass c h page locked ≡ PageRead pass c h page locked
read_of-page cpus pass c h page locked small = ap (λ (t : Bool). read_if t pass c h page locked) (ne_eqb c cpus (λ e. omega arith))

pub read_of-hv : (cpus pass h : ℕ) (page : Page) (locked : Bool) → read_of cpus pass cpus h page locked ≡ HvRead pass h (of_page page) locked
read_of-hv cpus pass h page locked = ap (λ (t : Bool). read_if t pass cpus h page locked) (eq-eqb cpus cpus refl)

pub last_or-snoc : (o : Option Entry) (xs : List Entry) (e : Entry) → last_or o (xs ++ e ∷ []) ≡ Some e
last_or-snoc o [] e = refl
last_or-snoc o (x ∷ xs) e = last_or-snoc (Some x) xs e
