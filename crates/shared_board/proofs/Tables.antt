-- Reads of a page of the table, told of passes, and which page it was.
use Rattle.std.proofs.Common.{◌≡◌, ℕ, ◌≤◌, List, [], ◌∷◌, refl, ap, sym, ◌∙◌, subst, arith, Some, true, false, eq-eqb, Result, Ok, Err, IfOk, IfErr}
use mathlib.Core.List.{IsPrefix}
use Rattle.pvclock_page.specs.declared.page.Page.{Page}
use Rattle.host_counter.specs.declared.Anchor.{Anchor}
use Rattle.board_types.specs.declared.parts.BoardParts.{BoardParts}
use Rattle.board_history.specs.Machine.{Machine, page_at, page_published}
use Rattle.board_history.specs.History.{board_after, version_after, IsLegal, read_of}
use Rattle.board_history.specs.declared.entry.Entry.{Entry}
use Rattle.board_history.proofs.Laws.{legal-version, read_of-number}
use Rattle.clock_table.specs.declared.view.View.{View}
use Rattle.clock_table.specs.Steps.{or_else, number_in, Hears}
use Rattle.shared_board.specs.declared.fault.PageFault.{PageFault}
use Rattle.shared_board.specs.declared.fault.PageFault.TheVariants.{NoTime, Again}
use Rattle.shared_board.specs.declared.fault.LockedFault.{LockedFault}
use Rattle.shared_board.specs.declared.known.PassKnown.{PassKnown}
use Rattle.shared_board.specs.Passes.{Made, Missed}
use Rattle.shared_board.specs.Reads.{HadRoom}
use Rattle.shared_board.specs.private.Seats.{known, IsAtRest, IsBelow, IsApplied}
use Rattle.shared_board.specs.Tries.{HasHeard, IsTryFault}
use Rattle.shared_board.specs.private.Tables.{HasReadOnce, HasReadTable}
use Rattle.shared_board.proofs.Seats.{heard_rests, below_heard, below_as, alike_machine}
use Rattle.clock_table.specs.declared.call.Asked.{Asked}
use Rattle.board_types.specs.declared.reply.Reply.{Reply}
use Rattle.board_core.specs.Access.{after_access}
use Rattle.board_history.proofs.Pages.{machine_of-access, page_published-legal}
use Rattle.shared_board.proofs.Made.{made_late, heard_made, missed_rests}

-- a read without the lock
pub try_known : (s : BoardParts) (n k h : ℕ) (page : Page) (v w : View) → IsAtRest n v → HasHeard s.cpus k h page v w
    → HasReadOnce s k h false page (known n v) (known n w)
try_known s n k h page v w rest a =
    let number : number_in v ≡ n = ap (λ o. or_else o 0) rest.number in
    let e : Entry = read_of s.cpus n k h page false in
    let t : Hears e v w = subst (λ (i : ℕ). Hears (read_of s.cpus i k h page false) v w) number a.heard in
    record {
      read = record { made = heard_made n v w e rest t (read_of-number s.cpus n k h n page false ∙ eq-eqb n n refl); least = a.least; room = λ is. absurd (cc is) };
      misses = ap (λ u. u.misses) t.1;
    }

pub try_answered : (res : Result Page PageFault) (s : BoardParts) (n k h : ℕ) (v w : View) → IsAtRest n v
    → IfOk res (λ page. HasHeard s.cpus k h page v w) → IfOk res (λ page. HasReadOnce s k h false page (known n v) (known n w))
try_answered (Ok page) s n k h v w rest ok = try_known s n k h page v w rest ok
try_answered (Err f) s n k h v w rest ok = tt

pub try_rests : (res : Result Page PageFault) (anchor : Anchor) (c m n k h : ℕ) (v w : View) → IsAtRest n v → IsBelow m v
    → IfOk res (λ page. HasHeard c k h page v w) → IfErr res (λ f. IsTryFault anchor k h f v w) → IsAtRest n w × IsBelow m w
try_rests (Ok page) anchor c m n k h v w rest low ok err =
    let e : Entry = read_of c (number_in v) k h page false in
    (heard_rests n v w e rest ok.heard, below_heard m v w e ok.heard low)
try_rests (Err (NoTime fault)) anchor c m n k h v w rest low ok err =
    (subst (IsAtRest n) (sym err.1) rest, below_as m v w (ap (λ u. u.limit) err.1) (ap (λ u. u.seen) err.1) low)
try_rests (Err (Again first second)) anchor c m n k h v w rest low ok err =
    let missed = err.1.missed in
    (missed_rests n k first second v w rest missed, below_as m v w (ap (λ u. u.limit) missed) (ap (λ u. u.seen) missed) low)

-- a read under the lock after a try that met an update
pub read_late : (s : BoardParts) (k h : ℕ) (page : Page) (first second : ℕ) (p q r : PassKnown) → Missed k first second p q
    → HasReadOnce s k h true page q r → HasReadTable s k h page p r
read_late s k h page first second p q r m a =
    let number = m.unanswered.number in
    let made : Made q r (read_of s.cpus p.number k h page true ∷ []) =
    subst (λ (n : ℕ). Made q r (read_of s.cpus n k h page true ∷ [])) number a.read.made in
    let up = legal-version p.seen q.seen k m.unanswered.more m.unanswered.legal in
    let least = a.read.least in
    record {
      locked = true;
      read = record {
        made = made_late p q r (read_of s.cpus p.number k h page true ∷ []) m.unanswered made;
        least = omega arith;
        room = λ _. subst (λ (n : ℕ). HadRoom (read_of s.cpus n k h page true) r.seen) number (a.read.room refl);
      };
      tried = (first, second, a.misses ∙ m.misses, m.least, m.update);
    }

pub locked_late : (res : Result Page LockedFault) (s : BoardParts) (k h first second : ℕ) (p q r : PassKnown) → Missed k first second p q
    → IfOk res (λ page. HasReadOnce s k h true page q r) → IfOk res (λ page. HasReadTable s k h page p r)
locked_late (Ok page) s k h first second p q r m ok = read_late s k h page first second p q r m ok
locked_late (Err f) s k h first second p q r m ok = tt

-- the page that is read under the lock is no older than what the pass had seen
pub read_least : (res : Result Page ℕ) (k : ℕ) (xs ys : List Entry) → IsPrefix xs ys → IsLegal ys → IfOk res (λ page. page_at (board_after ys) k ≡ page)
    → IfOk res (λ page. version_after xs k ≤ page.version)
read_least (Ok page) k xs ys p l ok = let up = legal-version xs ys k p l in let same = ap (λ (q : Page). q.version) ok in omega arith
read_least (Err f) k xs ys p l ok = tt

-- the page of the table that a taken access publishes is there
pub applied_place : (n : ℕ) (b d : BoardParts) (a : Asked) (r : Reply) (k : ℕ) → b.cpus ≡ n → IsApplied b d a r → page_published n a.cpu a.access ≡ Some k
    → k ≤ n
applied_place n b d a r k here applied is =
    let same = ap (λ (m : Machine). m.cpus) (alike_machine b (after_access d a.cpu a.h a.access) applied.after ∙ machine_of-access d a.cpu a.h a.access) in
    let cpus : d.cpus ≡ n = sym same ∙ here in
    let low = page_published-legal d.cpus d.format a.cpu k a.access applied.answered.cpu_below applied.answered.legal
    (subst (λ (m : ℕ). page_published m a.cpu a.access ≡ Some k) (sym cpus) is) in
    omega arith
