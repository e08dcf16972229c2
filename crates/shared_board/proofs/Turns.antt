-- A turn with the pen, whichever way it ended.
use Rattle.std.proofs.Common.{◌≡◌, ℕ, ◌<◌, ◌^◌, List, [], ◌∷◌, ◌++◌, refl, ap, sym, ◌∙◌, subst, arith, Some, true, Result, Ok, Err, IfOk, IfErr, OnOk, eq-eqb}
use Rattle.board_types.specs.declared.parts.BoardParts.{BoardParts}
use Rattle.board_types.specs.declared.reply.Refusal.{Refusal}
use Rattle.board_types.specs.declared.reply.Reply.{Reply}
use Rattle.board_core.specs.Pages.{with_greatest}
use Rattle.board_core.specs.Refusals.{refusal_of}
use Rattle.board_history.specs.Machine.{machine_of}
use Rattle.board_history.specs.History.{board_after, IsLegal}
use Rattle.board_history.specs.declared.entry.Entry.{Entry}
use Rattle.board_history.specs.declared.entry.Entry.TheVariants.{Board}
use Rattle.board_history.specs.History.{read_of}
use Rattle.board_history.proofs.Laws.{board_after-snoc, read_of-leaves, read_of-number}
use Rattle.pvclock_page.specs.declared.page.Page.{Page}
use Rattle.clock_table.specs.declared.view.View.{View}
use Rattle.clock_table.specs.Steps.{Extends, pen_left, pen_right, loud}
use Rattle.clock_table.proofs.Keeps.{loud-append, loud_quiet}
use Rattle.clock_table.specs.declared.call.Asked.{Asked}
use Rattle.clock_table.specs.declared.call.Call.{Call}
use Rattle.shared_board.specs.Passes.{Answered, Unanswered, Refused}
use Rattle.std.proofs.Common.{append-nil}
use Rattle.shared_board.specs.Reads.{HadRoom}
use Rattle.shared_board.specs.Faults.{IsFull}
use Rattle.shared_board.specs.private.Seats.{known, IsAtRest, IsBelow, AreAlike, IsHeldBy, IsHeld, PenMoved, IsPenOf, HasActed, HasRefused, IsSpentAt}
use Rattle.clock_table.specs.Calls.{entry_of}
use Rattle.shared_board.proofs.Seats.{alike_quiet, legal_either, pen_of, below_moved, below_as, below_told, rests_left, told_rests}
use Rattle.shared_board.proofs.Made.{told_answered, moved_unanswered}
use Rattle.shared_board.proofs.Clocks.{loud-le}

-- the writer's seat, as it was taken from its place
pub taken : (opening : BoardParts) (m : ℕ) (b : BoardParts) (vs : List View) (w : View) → IsHeld opening m b vs → vs ≡ w ∷ [] → IsHeldBy opening m b w
taken opening m b vs w held is = let same : held.0 ≡ w = cc (held.1, is) in subst (IsHeldBy opening m b) same held.2

-- what is so of the seat x that has the pen for the pass n, and of the board b
pub record HasPen (opening : BoardParts) (m n : ℕ) (b : BoardParts) (x : View) : Type 0 where
  pub pen : IsPenOf n x
  pub made : x.made ≡ m
  pub ended : x.ended ≡ []
  pub below : IsBelow m x
  pub legal : IsLegal x.seen
  pub alike : AreAlike b (board_after x.seen)
  pub machine : machine_of b ≡ machine_of opening

-- before a turn: the seat v of the pass has taken in the writer's, w
pub pen_taken : (opening : BoardParts) (m n : ℕ) (b : BoardParts) (vs : List View) (v w x : View) → IsHeld opening m b vs → vs ≡ w ∷ [] → IsAtRest n v
    → IsBelow m v → PenMoved w v x → HasPen opening m n b x
pen_taken opening m n b vs v w x held is rest low moved =
    let i = taken opening m b vs w held is in
    record {
      pen = pen_of n v w x rest moved;
      made = moved.made ∙ i.writer.made;
      ended = moved.ended ∙ rest.ended;
      below = below_moved m w v x i.below low moved;
      legal = legal_either v w x rest.legal i.writer.legal moved.either;
      alike = alike_quiet b w.seen x.seen i.alike moved.quiet;
      machine = i.machine;
    }

-- after it: the pass is at rest, and the writer's seat is as it was
pub record HasTurned (opening : BoardParts) (m n : ℕ) (b : BoardParts) (y : View) : Type 0 where
  pub writer : IsHeldBy opening m b (pen_right y)
  pub rests : (z : View) → z ≡ pen_left y → IsAtRest n z × IsBelow m z

turned_of : (opening : BoardParts) (m n : ℕ) (b : BoardParts) (y : View) → y.made ≡ m → IsBelow m y → IsLegal y.seen → AreAlike b (board_after y.seen)
    → machine_of b ≡ machine_of opening → ((z : View) → z ≡ pen_left y → IsAtRest n z) → HasTurned opening m n b y
turned_of opening m n b y made below legal alike machine rests = record {
  writer = record {
    writer = record { number = refl; pen = refl; hand = refl; meet = refl; made = made; ended = refl; legal = legal };
    below = record { limit = below.limit; below = below.below };
    alike = alike;
    machine = machine;
  };
  rests = λ z left. (rests z left, below_as m y z (ap (λ u. u.limit) left) (ap (λ u. u.seen) left) below);
}

-- a turn in which nothing was done
turned_same : (opening : BoardParts) (m n : ℕ) (b : BoardParts) (x y : View) → HasPen opening m n b x → y ≡ x → HasTurned opening m n b y
turned_same opening m n b x y has same =
    subst (HasTurned opening m n b) (sym same) (turned_of opening m n b x has.made has.below has.legal has.alike has.machine
    (λ z left. rests_left n x x z has.pen has.ended refl has.pen.hand refl refl has.legal left))

-- an access
pub act_turned : {A : Type 0} (res : Result A Refusal) (r : Reply) (opening : BoardParts) (m : ℕ) (c : Call) (b b' : BoardParts) (x y : View)
    → HasPen opening m c.pass b x → machine_of b' ≡ machine_of b → OnOk res (HasActed c r b' x y) → IfErr res (λ f. HasRefused c.asked f b b' x y)
    → HasTurned opening m c.pass b' y
act_turned (Ok _) r opening m c b b' x y has machine ok err =
    turned_of opening m c.pass b' y (ap (λ u. u.made) ok.told.1 ∙ has.made) (below_told m x y (entry_of c r) ok.told has.below) ok.told.3.legal ok.alike
    (machine ∙ has.machine) (λ z left. told_rests c.pass (entry_of c r) x y z has.pen has.ended ok.told left)
act_turned (Err f) r opening m c b b' x y has machine ok err =
    turned_same opening m c.pass b' x y (subst (λ (z : BoardParts). HasPen opening m c.pass z x) (sym err.board) has) err.seat

pub act_answered : {A : Type 0} (res : Result A Refusal) (r : Reply) (n cpu h : ℕ) (c : Call) (b' : BoardParts) (v w x y z : View) → c.pass ≡ n
    → IsAtRest n v → PenMoved w v x
    → z ≡ pen_left y → OnOk res (HasActed c r b' x y) → OnOk res (Answered (known n v) (known n z) (Board n c.asked.cpu c.asked.h c.asked.access r))
act_answered (Ok _) r n cpu h c b' v w x y z same rest moved left ok =
    let e : Entry = Board n c.asked.cpu c.asked.h c.asked.access r in
    let told : Extends e x y = subst (λ (k : ℕ). Extends (Board k c.asked.cpu c.asked.h c.asked.access r) x y) same ok.told in
    subst (λ (u : View). Answered (known n v) (known n u) e) (sym left) (told_answered n v w x y e rest moved told (eq-eqb n n refl))
act_answered (Err f) r n cpu h c b' v w x y z same rest moved left ok = tt

pub act_refused : {A : Type 0} (res : Result A Refusal) (n : ℕ) (a : Asked) (b b' : BoardParts) (v w x y z : View) → IsAtRest n v → PenMoved w v x
    → IsLegal x.seen
    → z ≡ pen_left y → IfErr res (λ f. HasRefused a f b b' x y) → IfErr res (λ f. Refused a.cpu a.h a.access f (known n v) (known n z))
act_refused (Ok _) n a b b' v w x y z rest moved legal left err = tt
act_refused (Err f) n a b b' v w x y z rest moved legal left err =
    let seen : z.seen ≡ x.seen = ap (λ u. u.seen) left ∙ ap (λ u. u.seen) err.seat in
    record {
      unanswered = moved_unanswered n v w x y z rest moved legal err.seat (ap (λ u. u.seen) left);
      misses = ap (λ u. u.misses) left ∙ (ap (λ u. u.misses) err.seat ∙ moved.misses);
      refusal = subst (λ l. refusal_of (board_after l) a.cpu a.h a.access ≡ Some f) (sym seen) err.refusal;
    }

-- a read under the lock
pub read_turned : (res : Result Page ℕ) (c : ℕ) (opening : BoardParts) (m n cpu h : ℕ) (b : BoardParts) (x y : View) → HasPen opening m n b x
    → IfOk res (λ page. Extends (read_of c n cpu h page true) x y) → IfErr res (λ f. IsSpentAt f x y) → HasTurned opening m n b y
read_turned (Ok page) c opening m n cpu h b x y has ok err =
    let e : Entry = read_of c n cpu h page true in
    let seen : y.seen ≡ (x.seen ++ ok.0) ++ e ∷ [] = ap (λ u. u.seen) ok.1 in
    turned_of opening m n b y (ap (λ u. u.made) ok.1 ∙ has.made) (below_told m x y e ok has.below) ok.3.legal
    (alike_quiet b x.seen (x.seen ++ ok.0) has.alike (ok.0, refl, ok.2)
    ∙ sym (ap (λ l. with_greatest (board_after l) 0) seen ∙ ap (λ (z : BoardParts). with_greatest z 0) (board_after-snoc (x.seen ++ ok.0) e
    ∙ read_of-leaves (board_after (x.seen ++ ok.0)) c n cpu h page true)))
    has.machine (λ z left. told_rests n e x y z has.pen has.ended ok left)
read_turned (Err f) c opening m n cpu h b x y has ok err = turned_same opening m n b x y has err.seat

pub read_answered : (res : Result Page ℕ) (c n cpu h : ℕ) (v w x y z : View) → IsAtRest n v → PenMoved w v x → z ≡ pen_left y
    → IfOk res (λ page. Extends (read_of c n cpu h page true) x y) → IfOk res (λ page. Answered (known n v) (known n z) (read_of c n cpu h page true))
read_answered (Ok page) c n cpu h v w x y z rest moved left ok =
    let e : Entry = read_of c n cpu h page true in
    subst (λ (u : View). Answered (known n v) (known n u) e) (sym left)
    (told_answered n v w x y e rest moved ok (read_of-number c n cpu h n page true ∙ eq-eqb n n refl))
read_answered (Err f) c n cpu h v w x y z rest moved left ok = tt

-- the front word counts the entries before the read
pub read_room : (res : Result Page ℕ) (c n cpu h : ℕ) (x y z : View) → z ≡ pen_left y → IfOk res (λ page. Extends (read_of c n cpu h page true) x y)
    → OnOk res (loud x.seen < 2 ^ 63) → IfOk res (λ page. HadRoom (read_of c n cpu h page true) z.seen)
read_room (Ok page) c n cpu h x y z left ok room =
    let e : Entry = read_of c n cpu h page true in
    let seen : z.seen ≡ (x.seen ++ ok.0) ++ e ∷ [] = ap (λ u. u.seen) left ∙ ap (λ u. u.seen) ok.1 in
    let b = loud-append x.seen ok.0 in
    let c = loud_quiet ok.0 ok.2 in
    (x.seen ++ ok.0, ([], append-nil _ ∙ sym seen), omega arith)
read_room (Err f) c n cpu h x y z left ok room = tt

pub read_spent : (res : Result Page ℕ) (n : ℕ) (v w x y z : View) → IsAtRest n v → PenMoved w v x → IsLegal x.seen → z ≡ pen_left y
    → IfErr res (λ f. IsSpentAt f x y)
    → IfErr res (λ f. Unanswered (known n v) (known n z) × (z.misses ≡ v.misses) × IsFull f z.seen)
read_spent (Ok page) n v w x y z rest moved legal left err = tt
read_spent (Err f) n v w x y z rest moved legal left err =
    let seen : x.seen ≡ z.seen = sym (ap (λ u. u.seen) left ∙ ap (λ u. u.seen) err.seat) in
    let value = err.value in
    let full = err.full in (
      moved_unanswered n v w x y z rest moved legal err.seat (ap (λ u. u.seen) left),
      ap (λ u. u.misses) left ∙ (ap (λ u. u.misses) err.seat ∙ moved.misses),
      subst (IsFull f) seen (record { value = err.value; full = err.full; reads = (let le = loud-le x.seen in omega arith) }),
    )
