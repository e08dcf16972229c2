-- Reads of pages and clocks, told of passes; and that as many reads as it counts fill the front word.
use Rattle.std.proofs.Common.{append-nil, ◌≡◌, ℕ, ◌≤◌, List, [], ◌∷◌, ◌++◌, refl, ap, sym, ◌∙◌, subst, arith, Option, Some, Bool, true, false, if◌then◌else◌, eq-eqb, Result, Ok, Err, IfErr}
use mathlib.Core.List.{IsPrefix}
use Rattle.pvclock_page.specs.declared.page.Page.{Page}
use Rattle.pvclock_page.specs.declared.page.PageReply.{PageReply}
use Rattle.pvclock_page.specs.declared.page.PageReply.TheVariants.{Off, On}
use Rattle.pvclock_page.specs.declared.page.ClockReply.{ClockReply}
use Rattle.pvclock_page.specs.declared.page.ClockReply.TheVariants.{Off as ClockOff, On as ClockOn}
use Rattle.host_counter.specs.declared.Anchor.{Anchor}
use Rattle.board_types.specs.declared.parts.BoardParts.{BoardParts}
use Rattle.board_core.specs.Pages.{reading_by, answer_by}
use Rattle.board_history.specs.Machine.{ratio_in}
use Rattle.board_history.specs.History.{floor_after, read_of}
use Rattle.board_history.specs.declared.entry.Entry.{Entry}
use Rattle.board_history.specs.declared.entry.Entry.TheVariants.{PageRead, HvRead, Clamp}
use Rattle.board_history.proofs.Laws.{board_after-snoc, legal-floor, read_of-page, read_of-hv}
use Rattle.clock_table.specs.declared.view.View.{View}
use Rattle.clock_table.specs.Steps.{or_else, number_in, weight, loud, Hears}
use Rattle.clock_table.proofs.Lists.{prefix_trans}
use Rattle.shared_board.specs.declared.fault.PageFault.{PageFault}
use Rattle.shared_board.specs.declared.fault.PageFault.TheVariants.{NoTime, Again}
use Rattle.shared_board.specs.declared.known.PassKnown.{PassKnown}
use Rattle.shared_board.specs.Passes.{Made}
use Rattle.shared_board.specs.declared.read.Read.{Read}
use Rattle.shared_board.specs.declared.read.Read.TheVariants.{Page as OfPage, Clock as OfClock, Hv as OfHv}
use Rattle.shared_board.specs.declared.read.ReadReply.{ReadReply}
use Rattle.shared_board.specs.declared.read.ReadReply.TheVariants.{Page as PageIs, Clock as ClockIs, Hv as HvIs}
use Rattle.shared_board.specs.Reads.{place_in, MayRead, page_entry, clamp_entries, IsAnswerBy, HadRoom, WasRead, HasTried, HasRead}
use Rattle.shared_board.specs.Faults.{page_reads, IsPageFault}
use Rattle.shared_board.specs.private.Seats.{known, IsAtRest, IsLastPage, HasClamped}
use Rattle.shared_board.specs.private.Tables.{TableRead, HasReadOnce, HasReadTable, IsAnswered}
use Rattle.shared_board.specs.Tries.{IsTryFault}
use Rattle.shared_board.proofs.Made.{made_more, made_last, heard_made, missed_known, tried_on}

weight-le : (b : Bool) → weight b ≤ 1
weight-le true = omega arith
weight-le false = omega arith

-- an entry that is counted is a read of a page, so a full front word means many reads
pub loud-le : (es : List Entry) → loud es ≤ page_reads es
loud-le [] = omega arith
loud-le (PageRead pass cpu h page locked ∷ es) = let r = loud-le es in let w = weight-le locked in omega arith
loud-le (HvRead pass h page locked ∷ es) = let r = loud-le es in let w = weight-le locked in omega arith
loud-le (_ ∷ es) = let r = loud-le es in omega arith

-- what an answer says of the page
answer-on : (b : Bool) (p page : Page) (x y : ℕ) → On p x ≡ (if b then On page y else Off) → (b ≡ true) × (x ≡ y)
answer-on true p page x y e = (refl, cc e)
answer-on false p page x y e = absurd (cc e)

answer-off : (b : Bool) (page : Page) (y : ℕ) → Off ≡ (if b then On page y else Off) → b ≡ false
answer-off true page y e = absurd (cc e)
answer-off false page y e = refl

-- the clamp
pub clamp_known : (n cpu x clock : ℕ) (v w : View) → IsAtRest n v → Hears (Clamp (number_in v) cpu x clock) v w
    → Made (known n v) (known n w) (Clamp n cpu x clock ∷ []) × (w.misses ≡ v.misses) × (floor_after v.seen ≤ clock)
clamp_known n cpu x clock v w rest t =
    let number : number_in v ≡ n = ap (λ (o : Option ℕ). or_else o 0) rest.number in
    let e : Entry = Clamp n cpu x clock in
    let t' : Hears e v w = subst (λ (k : ℕ). Hears (Clamp k cpu x clock) v w) number t in
    let made = heard_made n v w e rest t' (eq-eqb n n refl) in
    let seen : w.seen ≡ (v.seen ++ t'.0) ++ e ∷ [] = ap (λ u. u.seen) t'.1 in
    let last : floor_after w.seen ≡ clock = ap floor_after seen ∙ ap (λ (b : BoardParts). b.greatest) (board_after-snoc (v.seen ++ t'.0) e) in
    let up = legal-floor v.seen w.seen made.more made.legal in
    (made, ap (λ u. u.misses) t'.1, omega arith)

pub try_faulted : (res : Result Page PageFault) (anchor : Anchor) (n cpu h : ℕ) (v w : View) → IsAtRest n v
    → IfErr res (λ f. IsTryFault anchor cpu h f v w) → IfErr res (λ f. IsPageFault anchor cpu h f (known n v) (known n w))
try_faulted (Ok reply) anchor n cpu h v w rest err = tt
try_faulted (Err (NoTime fault)) anchor n cpu h v w rest err = (err.0, ap (known n) err.1)
try_faulted (Err (Again first second)) anchor n cpu h v w rest err = (err.0, missed_known n cpu first second v w rest err.1)

-- a clock is a read and its clamp: of the same page, with no miss more, and it has seen no less
clock_known : (s : BoardParts) (cpu h : ℕ) (locked : Bool) (page : Page) (read : PageReply) (reply : ClockReply) (p q r : PassKnown)
    → read ≡ answer_by (ratio_in s) page h → Made p q (PageRead p.number cpu h page locked ∷ []) → HasClamped cpu read reply q r
    → IsAnswerBy s (OfClock cpu) h page (ClockIs reply) p
    × Made p r (PageRead p.number cpu h page locked ∷ clamp_entries p.number (OfClock cpu) (ClockIs reply)) × (r.misses ≡ q.misses)
    × IsPrefix q.seen r.seen
clock_known s cpu h locked page Off ClockOff p q r is made c = (
  answer-off page.enabled page (reading_by (ratio_in s) page h) is,
  subst (λ (z : PassKnown). Made p z (PageRead p.number cpu h page locked ∷ [])) (sym c) made,
  ap (λ (z : PassKnown). z.misses) c,
  ([], append-nil q.seen ∙ sym (ap (λ (z : PassKnown). z.seen) c)),
)
clock_known s cpu h locked page (On pg x) (ClockOn told clock) p q r is made c =
    let a = answer-on page.enabled pg page x (reading_by (ratio_in s) page h) is in
    let clamp : Made q r (Clamp p.number cpu told clock ∷ []) =
    subst (λ (z : ℕ × ℕ). Made q r (Clamp z.0 cpu z.1 clock ∷ [])) (λ i. (made.number i, sym c.0 i)) c.1 in
    let up = legal-floor p.seen q.seen made.more made.legal in
    let least = c.3 in (
      (a.0, c.0 ∙ a.1, omega arith),
      made_more p q r (PageRead p.number cpu h page locked ∷ []) (Clamp p.number cpu told clock ∷ []) made clamp,
      c.2,
      c.1.more,
    )
clock_known s cpu h locked page _ _ p q r is made c = absurd c

-- what a pass sees later leaves the place of an entry
room_later : (e : Entry) (xs ys : List Entry) → HadRoom e xs → IsPrefix xs ys → HadRoom e ys
room_later e xs ys r p = (r.0, prefix_trans (r.0 ++ e ∷ []) xs ys r.1 p, r.2)

module _ (s : BoardParts) (what : Read) (h : ℕ) (page : Page) (may : MayRead s what) where
  -- the entry of a page of the table, by what was read
  entry_is : (n : ℕ) (locked : Bool) → read_of s.cpus n (place_in s.cpus what) h page locked ≡ page_entry n what h page locked
  entry_is n locked = by what may
    where
      by : (x : Read) → MayRead s x → read_of s.cpus n (place_in s.cpus x) h page locked ≡ page_entry n x h page locked
      by (OfPage cpu) inside = read_of-page s.cpus n cpu h page locked inside
      by (OfClock cpu) inside = read_of-page s.cpus n cpu h page locked inside
      by OfHv inside = read_of-hv s.cpus n h page locked

  read_made : (locked : Bool) (p q : PassKnown) → TableRead s (place_in s.cpus what) h locked page p q
      → Made p q (page_entry p.number what h page locked ∷ [])
  read_made locked p q t = subst (λ (e : Entry). Made p q (e ∷ [])) (entry_is p.number locked) t.made

  read_room : (locked : Bool) (p q : PassKnown) → TableRead s (place_in s.cpus what) h locked page p q → locked ≡ true
      → HadRoom (page_entry p.number what h page true) q.seen
  read_room locked p q t is = subst (λ (e : Entry). HadRoom e q.seen) (entry_is p.number true) (t.room is)

  -- the entry that a read made is the last of its pass
  pub read_last : (locked : Bool) (p q : PassKnown) → TableRead s (place_in s.cpus what) h locked page p q → IsLastPage what h page q
  read_last locked p q t =
      let made = read_made locked p q t in
      (locked, made_last p q (page_entry p.number what h page locked) made ∙ ap (λ (n : ℕ). Some (page_entry n what h page locked)) (sym made.number))

-- a page that was read is the answer, and the clamp after it
answered : (s : BoardParts) (what : Read) (h : ℕ) (locked : Bool) (page : Page) (reply : ReadReply) (p q r : PassKnown) → MayRead s what
    → TableRead s (place_in s.cpus what) h locked page p q → IsAnswered s what h page reply q r
    → WasRead s what h locked reply p r × (r.misses ≡ q.misses)
answered s (OfPage cpu) h locked page (PageIs reply) p q r may t a = (
  subst (λ (z : PassKnown). WasRead s (OfPage cpu) h locked (PageIs reply) p z) (sym a.1) (record {
    page = page;
    answer = a.0;
    made = read_made s (OfPage cpu) h page may locked p q t;
    least = t.least;
    room = read_room s (OfPage cpu) h page may locked p q t;
  }),
  ap (λ (z : PassKnown). z.misses) a.1,
)
answered s (OfClock cpu) h locked page (ClockIs reply) p q r may t a =
    let k = clock_known s cpu h locked page (answer_by (ratio_in s) page h) reply p q r refl (read_made s (OfClock cpu) h page may locked p q t) a in (
      record {
        page = page;
        answer = k.0;
        made = k.1;
        least = t.least;
        room = λ is. room_later (PageRead p.number cpu h page true) q.seen r.seen (read_room s (OfClock cpu) h page may locked p q t is) k.3;
      },
      k.2,
    )
answered s OfHv h locked page (HvIs reply) p q r may t a = (
  subst (λ (z : PassKnown). WasRead s OfHv h locked (HvIs reply) p z) (sym a.1) (record {
    page = page;
    answer = a.0;
    made = read_made s OfHv h page may locked p q t;
    least = t.least;
    room = read_room s OfHv h page may locked p q t;
  }),
  ap (λ (z : PassKnown). z.misses) a.1,
)
answered s _ h locked page _ p q r may t a = absurd a

pub tried : (s : BoardParts) (what : Read) (h : ℕ) (page : Page) (reply : ReadReply) (p q r : PassKnown) → MayRead s what
    → HasReadOnce s (place_in s.cpus what) h false page p q → IsAnswered s what h page reply q r → HasTried s what h reply p r
tried s what h page reply p q r may t a =
    let k = answered s what h false page reply p q r may t.read a in
    record { read = k.0; misses = k.1 ∙ t.misses }

pub read_known : (s : BoardParts) (what : Read) (h : ℕ) (page : Page) (reply : ReadReply) (p q r : PassKnown) → MayRead s what
    → HasReadTable s (place_in s.cpus what) h page p q → IsAnswered s what h page reply q r → HasRead s what h reply p r
read_known s what h page reply p q r may t a =
    let k = answered s what h t.locked page reply p q r may t.read a in
    record { locked = t.locked; read = k.0; tried = tried_on t.locked (place_in s.cpus what) p q r t.tried k.1 }
