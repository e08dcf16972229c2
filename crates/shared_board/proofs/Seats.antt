-- Boards that are alike, and seats that have had the pen.
use Rattle.std.proofs.Common.{◌≡◌, ◌⊎◌, ⊎_elim, ℕ, List, [], ◌∷◌, ◌++◌, refl, ap, sym, ◌∙◌, subst, None}
use Rattle.board_types.specs.declared.access.Access.{Access}
use Rattle.board_types.specs.declared.parts.BoardParts.{BoardParts}
use Rattle.board_types.specs.declared.reply.Reply.{Reply}
use Rattle.board_core.specs.Access.{after_access, reply_of}
use Rattle.board_core.specs.Pages.{with_greatest}
use Rattle.board_core.specs.Refusals.{refusal_of}
use Rattle.board_core.proofs.Laws.{after_access-greatest, refusal_of-greatest, reply_of-greatest}
use Rattle.board_history.specs.Machine.{machine_of, page_at, no_board}
use Rattle.board_history.specs.History.{board_after, entries_of, IsLegal, after_entry}
use Rattle.board_history.specs.declared.entry.Entry.{Entry}
use Rattle.board_history.proofs.Laws.{board_after-snoc}
use Rattle.clock_table.specs.declared.view.View.{View}
use Rattle.clock_table.specs.Steps.{GoesOnQuietly, Extends, Hears, pen_left}
use Rattle.clock_table.proofs.Keeps.{quiet_beside}
use Rattle.clock_table.specs.declared.call.Call.{Call}
use Rattle.shared_board.specs.private.Seats.{IsAtRest, IsBelow, AreAlike, PenMoved, IsPenOf}
use Rattle.clock_table.specs.Calls.{entry_of}
use Rattle.std.proofs.lemmas.List.Sums.{fold-append}

-- boards that are alike have the same pages, refuse alike, answer alike, and are alike after an access
pub alike_page : (b c : BoardParts) (d : ℕ) → AreAlike b c → page_at b d ≡ page_at c d
alike_page b c d e = ap (λ (x : BoardParts). page_at x d) e

pub alike_machine : (b c : BoardParts) → AreAlike b c → machine_of b ≡ machine_of c
alike_machine b c e = ap machine_of e

pub alike_refusal : (b c : BoardParts) (cpu h : ℕ) (a : Access) → AreAlike b c → refusal_of b cpu h a ≡ refusal_of c cpu h a
alike_refusal b c cpu h a e =
    sym (refusal_of-greatest b cpu h 0 a) ∙ (ap (λ (x : BoardParts). refusal_of x cpu h a) e ∙ refusal_of-greatest c cpu h 0 a)

pub alike_reply : (b c : BoardParts) (cpu h : ℕ) (a : Access) → AreAlike b c → reply_of b cpu h a ≡ reply_of c cpu h a
alike_reply b c cpu h a e =
    sym (reply_of-greatest b cpu h 0 a) ∙ (ap (λ (x : BoardParts). reply_of x cpu h a) e ∙ reply_of-greatest c cpu h 0 a)

pub alike_after : (b c : BoardParts) (cpu h : ℕ) (a : Access) → AreAlike b c → AreAlike (after_access b cpu h a) (after_access c cpu h a)
alike_after b c cpu h a e =
    sym (after_access-greatest b cpu h 0 a) ∙ (ap (λ (x : BoardParts). after_access x cpu h a) e ∙ after_access-greatest c cpu h 0 a)

pub alike_quiet : (b : BoardParts) (xs ys : List Entry) → AreAlike b (board_after xs) → GoesOnQuietly xs ys → AreAlike b (board_after ys)
alike_quiet b xs ys e q =
    let beside = quiet_beside (board_after xs) q.0 q.2 in
    let now : board_after ys ≡ with_greatest (board_after xs) beside.0 = ap board_after (sym q.1) ∙ (fold-append after_entry no_board xs q.0 ∙ beside.1) in
    e ∙ sym (ap (λ (x : BoardParts). with_greatest x 0) now)

-- the board after an access that was added after quiet entries
pub alike_told : (c : Call) (r : Reply) (b : BoardParts) (v w : View)
    → AreAlike b (after_access (board_after v.seen) c.asked.cpu c.asked.h c.asked.access)
    → Extends (entry_of c r) v w → AreAlike b (board_after w.seen)
alike_told c r b v w e x =
    let seen : w.seen ≡ (v.seen ++ x.0) ++ entry_of c r ∷ [] = ap (λ u. u.seen) x.1 in
    let quiet : AreAlike (board_after v.seen) (board_after (v.seen ++ x.0)) = alike_quiet (board_after v.seen) v.seen (v.seen ++ x.0) refl (x.0, refl, x.2) in
    e ∙ (alike_after (board_after v.seen) (board_after (v.seen ++ x.0)) c.asked.cpu c.asked.h c.asked.access quiet
    ∙ sym (ap (λ l. with_greatest (board_after l) 0) seen ∙ ap (λ (y : BoardParts). with_greatest y 0) (board_after-snoc (v.seen ++ x.0) (entry_of c r))))

pub legal_either : (v w x : View) → IsLegal v.seen → IsLegal w.seen → (x.seen ≡ v.seen) ⊎ (x.seen ≡ w.seen) → IsLegal x.seen
legal_either v w x a b e = ⊎_elim (λ (q : x.seen ≡ v.seen). subst IsLegal (sym q) a) (λ (q : x.seen ≡ w.seen). subst IsLegal (sym q) b) e

pub pen_of : (n : ℕ) (v w x : View) → IsAtRest n v → PenMoved w v x → IsPenOf n x
pen_of n v w x rest moved = record { number = moved.number ∙ rest.number; pen = moved.pen; meet = moved.meet; hand = moved.hand }

-- what was seen stays below the passes that were made
pub below_moved : (m : ℕ) (w v x : View) → IsBelow m w → IsBelow m v → PenMoved w v x → IsBelow m x
below_moved m w v x a b moved = record {
  limit = moved.limit ∙ b.limit;
  below = λ k l. ⊎_elim (λ (e : x.seen ≡ v.seen). ap (entries_of k) e ∙ b.below k l) (λ (e : x.seen ≡ w.seen). ap (entries_of k) e ∙ a.below k l) moved.either;
}

pub below_as : (m : ℕ) (v w : View) → w.limit ≡ v.limit → w.seen ≡ v.seen → IsBelow m v → IsBelow m w
below_as m v w limit seen b = record { limit = limit ∙ b.limit; below = λ k l. ap (entries_of k) seen ∙ b.below k l }

pub below_told : (m : ℕ) (v w : View) (e : Entry) → Extends e v w → IsBelow m v → IsBelow m w
below_told m v w e x b = record { limit = ap (λ u. u.limit) x.1 ∙ b.limit; below = λ k l. x.3.below m k b.limit l }

pub below_heard : (m : ℕ) (v w : View) (e : Entry) → Hears e v w → IsBelow m v → IsBelow m w
below_heard m v w e x b = record { limit = ap (λ u. u.limit) x.1 ∙ b.limit; below = λ k l. x.2.below m k b.limit l }

-- a pass rests again after its turn with the pen
pub rests_left : (n : ℕ) (x y z : View) → IsPenOf n x → x.ended ≡ [] → y.number ≡ x.number → y.hand ≡ None → y.meet ≡ x.meet → y.ended ≡ x.ended
    → IsLegal y.seen
    → z ≡ pen_left y → IsAtRest n z
rests_left n x y z has none number hand meet ended legal e = subst (IsAtRest n) (sym e)
    (record { number = number ∙ has.number; pen = refl; hand = hand; meet = meet ∙ has.meet; ended = ended ∙ none; legal = legal })

pub told_rests : (n : ℕ) (e : Entry) (x y z : View) → IsPenOf n x → x.ended ≡ [] → Extends e x y → z ≡ pen_left y → IsAtRest n z
told_rests n e x y z has none t left =
    rests_left n x y z has none (ap (λ u. u.number) t.1) (ap (λ u. u.hand) t.1) (ap (λ u. u.meet) t.1) (ap (λ u. u.ended) t.1) t.3.legal left

pub heard_rests : (n : ℕ) (v w : View) (e : Entry) → IsAtRest n v → Hears e v w → IsAtRest n w
heard_rests n v w e rest x = subst (IsAtRest n) (sym x.1) (record {
  number = rest.number;
  pen = rest.pen;
  hand = rest.hand;
  meet = rest.meet;
  ended = rest.ended;
  legal = subst (λ (u : View). IsLegal u.seen) x.1 x.2.legal;
})
