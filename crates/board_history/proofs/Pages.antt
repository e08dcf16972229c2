-- What an access does to the pages, and to what no access changes.
use Rattle.std.proofs.Common.{
  ◌≡◌,
  ◌≢◌,
  ℕ,
  zero,
  suc,
  ◌+◌,
  ◌*◌,
  ◌%◌,
  ◌^◌,
  ◌<◌,
  ◌≤◌,
  List,
  [],
  ◌∷◌,
  length,
  get_or,
  set,
  refl,
  sym,
  ap,
  ◌∙◌,
  subst,
  arith,
  length-set,
  Bool,
  true,
  false,
  cond,
  if◌then◌else◌,
  Option,
  Some,
  None,
  IsTrue,
  ne_eqb,
  ℤ,
  pos,
  negsuc,
  FitsSigned,
  inl,
  inr,
}
use Rattle.std.proofs.lemmas.Bool.{cases_lt, le-ltb, false≢true}
use Rattle.std.specs.Int.{w8}
use mathlib.Core.Logic.{dite}
use native.Mathlib.Decide.{ℕ_discrete}
use Rattle.clk_units.specs.Ranges.{IsKhz}
use Rattle.host_counter.specs.declared.Anchor.{Anchor}
use Rattle.pvclock_page.specs.Scale.{mul_for, shift_for}
use Rattle.pvclock_page.proofs.Scales.{IsScale-mul_for}
use Rattle.board_types.specs.Legal.{is_legal}
use Rattle.board_types.specs.declared.access.Access.{Access}
use Rattle.board_types.specs.declared.access.Access.TheVariants.{MsrWrite, Refresh}
use Rattle.board_types.specs.declared.parts.BoardParts.{BoardParts}
use Rattle.board_types.specs.declared.parts.ProcessorParts.{ProcessorParts}
use Rattle.board_types.specs.declared.parts.TheConstants.{LAST_VERSION}
use Rattle.board_core.specs.Access.{after_access}
use Rattle.board_core.specs.Pages.{page_in, prepared, published, published_at}
use Rattle.board_meters.specs.Published.{published_by}
use Rattle.board_core.specs.Refusals.{refusal_of}
use Rattle.board_core.specs.Tsc.{no_processor, processor_at}
use Rattle.board_core.proofs.Joined.{prepared-version}
use Rattle.board_core.proofs.Laws.{
  processors-are,
  after_access-accesses,
  after_access-anchor,
  after_access-cpus,
  after_access-format,
  after_access-guest_khz,
  processor_at-other,
  processor_at-published,
  processors-none,
  hv-else,
  version-hv,
  taken_accesses,
  taken_page,
  taken_hv,
  version-published,
}
use Rattle.board_core.specs.Hv.{hv_in}
use Rattle.board_meters.specs.Published.{publishes_hv}
use Rattle.board_meters.proofs.Publishing.{page-or-hv}
use Rattle.board_types.specs.declared.parts.HvParts.{HvParts}
use Rattle.pvclock_page.specs.declared.page.Page.{Page}
use Rattle.hv_page.specs.Words.{as_page}
use Rattle.std.proofs.Common.{eq-eqb}
use Rattle.board_history.specs.Machine.{machine_of, page_at, page_published}
use Rattle.board_history.specs.private.Steady.{IsSteady, IsSteadyPage}

-- the page that a legal access publishes is one of the board's
pub published_by-legal : (cpus format cpu k : ℕ) (a : Access) → cpu < cpus → IsTrue (is_legal cpus format a)
    → published_by cpu a ≡ Some k → k < cpus
published_by-legal cpus format cpu k (Refresh page) inside legal is =
    let same : page ≡ k = cc is in
    elim (cases_lt page cpus) [
      | inl less ↦ omega arith
      | inr more ↦ absurd (false≢true (sym (le-ltb page cpus more) ∙ legal))
    ]
published_by-legal cpus format cpu k (MsrWrite msr v) inside legal is = by _ is
  where
    by : (b : Bool) → cond b (Some cpu) None ≡ Some k → k < cpus
    by true e = let same : cpu ≡ k = cc e in omega arith
    by false e = absurd (cc e)
published_by-legal cpus format cpu k _ inside legal is = absurd (cc is)

-- what no access changes
pub machine_of-access : (b : BoardParts) (cpu h : ℕ) (a : Access) → machine_of (after_access b cpu h a) ≡ machine_of b
machine_of-access b cpu h a = λ i. record {
  format = after_access-format b cpu h a i;
  cpus = after_access-cpus b cpu h a i;
  anchor = after_access-anchor b cpu h a i;
  guest_khz = after_access-guest_khz b cpu h a i;
}

-- the page that an access publishes is one of the table's: the reference page, or that of a processor
pub page_published-legal : (cpus format cpu k : ℕ) (a : Access) → cpu < cpus → IsTrue (is_legal cpus format a)
    → page_published cpus cpu a ≡ Some k → k ≤ cpus
page_published-legal cpus format cpu k a inside legal is = by (publishes_hv a) is
  where
    by : (t : Bool) → cond t (Some cpus) (published_by cpu a) ≡ Some k → k ≤ cpus
    by true e = let same : cpus ≡ k = cc e in omega arith
    by false e = let l = published_by-legal cpus format cpu k a inside legal e in omega arith

-- which of the two kinds it is
kind-hv : (cpus cpu k : ℕ) (a : Access) → page_published cpus cpu a ≡ Some k → publishes_hv a ≡ true → cpus ≡ k
kind-hv cpus cpu k a is hv = cc (sym (ap (λ (t : Bool). cond t (Some cpus) (published_by cpu a)) hv) ∙ is)

kind-page : (cpus cpu k : ℕ) (a : Access) → page_published cpus cpu a ≡ Some k → publishes_hv a ≡ false → published_by cpu a ≡ Some k
kind-page cpus cpu k a is hv = sym (ap (λ (t : Bool). cond t (Some cpus) (published_by cpu a)) hv) ∙ is

none-hv : (cpus cpu : ℕ) (a : Access) → page_published cpus cpu a ≡ None → publishes_hv a ≡ false
none-hv cpus cpu a none = by (publishes_hv a) none
  where
    by : (t : Bool) → cond t (Some cpus) (published_by cpu a) ≡ None → t ≡ false
    by true e = absurd (cc e)
    by false e = refl

none-page : (cpus cpu : ℕ) (a : Access) → page_published cpus cpu a ≡ None → published_by cpu a ≡ None
none-page cpus cpu a none = sym (ap (λ (t : Bool). cond t (Some cpus) (published_by cpu a)) (none-hv cpus cpu a none)) ∙ none

-- a page of the table by its kind, of a board and of the board after an access
pub at-hv : (b : BoardParts) (j : ℕ) → j ≡ b.cpus → page_at b j ≡ as_page (hv_in b.hv)
at-hv b j e = ap (λ (t : Bool). if t then as_page (hv_in b.hv) else page_in (processor_at b j)) (eq-eqb j b.cpus e)

pub at-page : (b : BoardParts) (j : ℕ) → j ≢ b.cpus → page_at b j ≡ page_in (processor_at b j)
at-page b j ne = ap (λ (t : Bool). if t then as_page (hv_in b.hv) else page_in (processor_at b j)) (ne_eqb j b.cpus ne)

after-hv : (b : BoardParts) (cpu h j : ℕ) (a : Access) → j ≡ b.cpus → page_at (after_access b cpu h a) j ≡ as_page (hv_in (after_access b cpu h a).hv)
after-hv b cpu h j a e = at-hv (after_access b cpu h a) j (e ∙ sym (after_access-cpus b cpu h a))

after-page : (b : BoardParts) (cpu h j : ℕ) (a : Access) → j ≢ b.cpus → page_at (after_access b cpu h a) j ≡ page_in (processor_at (after_access b cpu h a) j)
after-page b cpu h j a ne = at-page (after_access b cpu h a) j (λ e. ne (e ∙ after_access-cpus b cpu h a))

-- where no access publishes it a page stays ..
stays-hv : (b : BoardParts) (cpu h j : ℕ) (a : Access) → publishes_hv a ≡ false → j ≡ b.cpus → page_at (after_access b cpu h a) j ≡ page_at b j
stays-hv b cpu h j a none e = after-hv b cpu h j a e ∙ (ap (λ (p : HvParts). as_page (hv_in p)) (hv-else b cpu h a none) ∙ sym (at-hv b j e))

stays-page : (b : BoardParts) (cpu h j : ℕ) (a : Access) → processor_at (after_access b cpu h a) j ≡ processor_at b j → j ≢ b.cpus
    → page_at (after_access b cpu h a) j ≡ page_at b j
stays-page b cpu h j a same ne = after-page b cpu h j a ne ∙ (ap page_in same ∙ sym (at-page b j ne))

-- .. each where none is published ..
pub page_at-none : (b : BoardParts) (cpu h j : ℕ) (a : Access) → page_published b.cpus cpu a ≡ None → page_at (after_access b cpu h a) j ≡ page_at b j
page_at-none b cpu h j a none = dite (ℕ_discrete j b.cpus)
    (λ e. stays-hv b cpu h j a (none-hv b.cpus cpu a none) e)
    (λ ne. stays-page b cpu h j a
    (ap (λ (ps : List ProcessorParts). get_or ps j no_processor) (processors-none b cpu h a (none-page b.cpus cpu a none))) ne)

-- .. and else each but that which is published ..
pub page_at-else : (b : BoardParts) (cpu h k j : ℕ) (a : Access) → page_published b.cpus cpu a ≡ Some k → j ≢ k
    → page_at (after_access b cpu h a) j ≡ page_at b j
page_at-else b cpu h k j a is other = by (publishes_hv a) refl
  where
    by : (t : Bool) → publishes_hv a ≡ t → page_at (after_access b cpu h a) j ≡ page_at b j
    by true hv = stays-page b cpu h j a
        (ap (λ (ps : List ProcessorParts). get_or ps j no_processor) (processors-none b cpu h a (page-or-hv cpu a hv)))
        (λ e. other (e ∙ kind-hv b.cpus cpu k a is hv))
    by false hv = dite (ℕ_discrete j b.cpus)
        (λ e. stays-hv b cpu h j a hv e)
        (λ ne. stays-page b cpu h j a (processor_at-other b cpu h k j a (kind-page b.cpus cpu k a is hv) other) ne)

-- .. which goes up by 2
pub version-here : (b : BoardParts) (cpu h k : ℕ) (a : Access) → b.cpus ≤ length b.processors → cpu < b.cpus → IsTrue (is_legal b.cpus b.format a)
    → page_published b.cpus cpu a ≡ Some k → (page_at (after_access b cpu h a) k).version ≡ (page_at b k).version + 2
version-here b cpu h k a places inside legal is = by (publishes_hv a) refl
  where
    by : (t : Bool) → publishes_hv a ≡ t → (page_at (after_access b cpu h a) k).version ≡ (page_at b k).version + 2
    by true hv = let e : k ≡ b.cpus = sym (kind-hv b.cpus cpu k a is hv) in
        ap (λ (p : Page). p.version) (after-hv b cpu h k a e)
        ∙ (version-hv b cpu h a hv ∙ ap (λ (p : Page). p.version + 2) (sym (at-hv b k e)))
    by false hv = let one = kind-page b.cpus cpu k a is hv in
        let less = published_by-legal b.cpus b.format cpu k a inside legal one in
        let ne : k ≢ b.cpus = λ e. omega arith in
        ap (λ (p : Page). p.version) (after-page b cpu h k a ne)
        ∙ (version-published b cpu h k a one (omega arith) ∙ ap (λ (p : Page). p.version + 2) (sym (at-page b k ne)))

pub length-processors : (b : BoardParts) (cpu h : ℕ) (a : Access) → length (after_access b cpu h a).processors ≡ length b.processors
length-processors b cpu h a = ap length (processors-are b cpu h a) ∙ by (published_by cpu a)
  where
    by : (p : Option ℕ) → length (published_at p b.anchor b.guest_khz h a b.processors) ≡ length b.processors
    by None = refl
    by (Some k) = length-set b.processors k _

-- a place that is set to a later version is later at each place
version-set : (ps : List ProcessorParts) (i k : ℕ) (p : ProcessorParts) → (get_or ps i no_processor).version ≤ p.version
    → (get_or ps k no_processor).version ≤ (get_or (set ps i p) k no_processor).version
version-set [] i k p h = omega arith
version-set (x ∷ xs) zero zero p h = h
version-set (x ∷ xs) zero (suc k) p h = omega arith
version-set (x ∷ xs) (suc i) zero p h = omega arith
version-set (x ∷ xs) (suc i) (suc k) p h = version-set xs i k p h

version-processor : (b : BoardParts) (cpu h k : ℕ) (a : Access) → (processor_at b k).version ≤ (processor_at (after_access b cpu h a) k).version
unfolding published
version-processor b cpu h k a =
    subst (λ (ps : List ProcessorParts). (get_or b.processors k no_processor).version ≤ (get_or ps k no_processor).version) (sym (processors-are b cpu h a))
    (by (published_by cpu a))
  where
    by : (p : Option ℕ) → (get_or b.processors k no_processor).version
        ≤ (get_or (published_at p b.anchor b.guest_khz h a b.processors) k no_processor).version
    by None = omega arith
    by (Some i) = version-set b.processors i k _
        (let same = prepared-version b.anchor b.guest_khz h a (get_or b.processors i no_processor) in omega arith)

-- no access lets a version fall
pub version-access : (b : BoardParts) (cpu h k : ℕ) (a : Access) → (page_at b k).version ≤ (page_at (after_access b cpu h a) k).version
version-access b cpu h k a = by (publishes_hv a) refl
  where
    by : (t : Bool) → publishes_hv a ≡ t → (page_at b k).version ≤ (page_at (after_access b cpu h a) k).version
    by true hv = dite (ℕ_discrete k b.cpus)
        (λ e. let was = ap (λ (p : Page). p.version) (at-hv b k e) in
        let is = ap (λ (p : Page). p.version) (after-hv b cpu h k a e) in
        let up = version-hv b cpu h a hv in omega arith)
        (λ ne. let same = ap (λ (p : Page). p.version) (stays-page b cpu h k a
        (ap (λ (ps : List ProcessorParts). get_or ps k no_processor) (processors-none b cpu h a (page-or-hv cpu a hv))) ne) in omega arith)
    by false hv = dite (ℕ_discrete k b.cpus)
        (λ e. let same = ap (λ (p : Page). p.version) (stays-hv b cpu h k a hv e) in omega arith)
        (λ ne. let was = ap (λ (p : Page). p.version) (at-page b k ne) in
        let is = ap (λ (p : Page). p.version) (after-page b cpu h k a ne) in
        let up = version-processor b cpu h k a in omega arith)

-- the scale of a guest's rate fits the words
fits-if : (b : Bool) (y z : ℤ) → FitsSigned w8 y → FitsSigned w8 z → FitsSigned w8 (cond b y z)
fits-if true y z p q = p
fits-if false y z p q = q

fits-left : (n : ℕ) → n < 128 → FitsSigned w8 (pos n)
fits-left n small = record { sfits = omega arith }

fits-right : (n : ℕ) → n < 128 → FitsSigned w8 (negsuc n)
fits-right n small = record { sfits = omega arith }

pub shift_for-fits : (hz : ℕ) → FitsSigned w8 (shift_for hz)
unfolding shift_for
shift_for-fits hz =
    fits-if _ _ _ (fits-left 4 (omega arith)) (fits-if _ _ _ (fits-left 3 (omega arith)) (fits-if _ _ _ (fits-left 2 (omega arith))
    (fits-if _ _ _ (fits-left 1 (omega arith)) (fits-if _ _ _ (fits-left 0 (omega arith)) (fits-if _ _ _ (fits-right 0 (omega arith))
    (fits-if _ _ _ (fits-right 1 (omega arith)) (fits-right 2 (omega arith))))))))

pub mul_for-fits : (khz : ℕ) → IsKhz khz → mul_for (khz * 1000) < 2 ^ 32
mul_for-fits khz rate = let s = rate.slow in let f = rate.fast in (IsScale-mul_for (khz * 1000) (omega arith) (omega arith)).most

-- a page that is published is steady
published-steady : (anchor : Anchor) (guest_khz h : ℕ) (p : ProcessorParts) → IsKhz guest_khz → p.version < LAST_VERSION → p.version % 2 ≡ 0
    → IsSteadyPage (page_in (published anchor guest_khz h 1 p))
unfolding published
published-steady anchor guest_khz h p rate less even = record {
  even = omega arith;
  most = omega arith;
  mul = mul_for-fits guest_khz rate;
  shift = shift_for-fits (guest_khz * 1000);
  flags = omega arith;
}

-- the reference page is steady where its version is
pub hv-steady : (p : HvParts) → p.version ≤ LAST_VERSION → p.version % 2 ≡ 0 → IsSteadyPage (as_page (hv_in p))
hv-steady p most even = record { even = even; most = most; mul = omega arith; shift = record { sfits = omega arith }; flags = omega arith }

-- the board after an access that is taken is as steady as the one before it
pub access-steady : (b : BoardParts) (cpu h : ℕ) (a : Access) → IsSteady b → cpu < b.cpus → IsTrue (is_legal b.cpus b.format a)
    → refusal_of b cpu h a ≡ None → IsSteady (after_access b cpu h a)
access-steady b cpu h a s inside legal taken = record {
  places = (let n = length-processors b cpu h a in let c = after_access-cpus b cpu h a in let m = s.places in omega arith);
  rate = subst IsKhz (sym (after_access-guest_khz b cpu h a)) s.rate;
  pages = λ j. by (page_published b.cpus cpu a) refl j;
  count = (let n = after_access-accesses b cpu h a in let m = taken_accesses b cpu h a taken in omega arith);
}
  where
    -- the page that is published
    here : (k : ℕ) → page_published b.cpus cpu a ≡ Some k → (t : Bool) → publishes_hv a ≡ t → IsSteadyPage (page_at (after_access b cpu h a) k)
    here k is true hv =
        let e : k ≡ b.cpus = sym (kind-hv b.cpus cpu k a is hv) in
        let was : IsSteadyPage (as_page (hv_in b.hv)) = subst IsSteadyPage (at-hv b k e) (s.pages k) in
        let up = version-hv b cpu h a hv in
        let less = taken_hv b cpu h a taken hv in
        let even = was.even in
        subst IsSteadyPage (sym (after-hv b cpu h k a e)) (hv-steady (after_access b cpu h a).hv (omega arith) (omega arith))
    here k is false hv =
        let one = kind-page b.cpus cpu k a is hv in
        let low = published_by-legal b.cpus b.format cpu k a inside legal one in
        let ne : k ≢ b.cpus = λ e. omega arith in
        let same = prepared-version b.anchor b.guest_khz h a (processor_at b k) in
        let less = taken_page b cpu h a taken k one in
        let was : IsSteadyPage (page_in (processor_at b k)) = subst IsSteadyPage (at-page b k ne) (s.pages k) in
        let even = was.even in
        let places = s.places in
        subst IsSteadyPage (sym (after-page b cpu h k a ne ∙ ap page_in (processor_at-published b cpu h k a one (omega arith))))
        (published-steady b.anchor b.guest_khz h (prepared b.anchor b.guest_khz h a (processor_at b k)) s.rate (omega (arith, same, less))
        (omega (arith, same, even)))

    by : (o : Option ℕ) → page_published b.cpus cpu a ≡ o → (j : ℕ) → IsSteadyPage (page_at (after_access b cpu h a) j)
    by None none j = subst IsSteadyPage (sym (page_at-none b cpu h j a none)) (s.pages j)
    by (Some k) is j = dite (ℕ_discrete j k)
        (λ e. subst (λ (i : ℕ). IsSteadyPage (page_at (after_access b cpu h a) i)) (sym e) (here k is (publishes_hv a) refl))
        (λ ne. subst IsSteadyPage (sym (page_at-else b cpu h k j a is ne)) (s.pages j))

-- the page of the table that a taken access publishes is not at its last version
pub taken_table : (b : BoardParts) (cpu h k : ℕ) (a : Access) → cpu < b.cpus → IsTrue (is_legal b.cpus b.format a) → refusal_of b cpu h a ≡ None
    → page_published b.cpus cpu a ≡ Some k → (page_at b k).version < LAST_VERSION
taken_table b cpu h k a inside legal taken is = by (publishes_hv a) refl
  where
    by : (t : Bool) → publishes_hv a ≡ t → (page_at b k).version < LAST_VERSION
    by true hv =
        let e : b.cpus ≡ k = cc (sym (ap (λ (t : Bool). cond t (Some b.cpus) (published_by cpu a)) hv) ∙ is) in
        let v = ap (λ (p : Page). p.version) (at-hv b k (sym e)) in
        let less = taken_hv b cpu h a taken hv in omega arith
    by false hv =
        let one : published_by cpu a ≡ Some k = sym (ap (λ (t : Bool). cond t (Some b.cpus) (published_by cpu a)) hv) ∙ is in
        let low = published_by-legal b.cpus b.format cpu k a inside legal one in
        let v = ap (λ (p : Page). p.version) (at-page b k (λ e. omega arith)) in
        let less = taken_page b cpu h a taken k one in omega arith
