-- What calls made, one after another.
use Rattle.std.proofs.Common.{◌≡◌, ℕ, List, [], ◌∷◌, ◌++◌, refl, ap, sym, ◌∙◌, subst, append_assoc, append-nil, Some, None, Bool, true, false}
use mathlib.Core.List.{IsPrefix}
use Rattle.board_history.specs.History.{entries_of, IsLegal}
use Rattle.board_history.specs.declared.entry.Entry.{Entry}
use Rattle.board_history.proofs.Laws.{entries_of-++, entries_of-own, last_or-snoc}
use Rattle.clock_table.specs.declared.view.View.{View}
use Rattle.clock_table.specs.Steps.{Extends, Hears, missed}
use Rattle.clock_table.proofs.Lists.{prefix_trans}
use Rattle.board_history.specs.History.{is_of}
use Rattle.shared_board.specs.declared.known.PassKnown.{PassKnown}
use Rattle.shared_board.specs.Passes.{mine, Made, Answered, Unanswered, Tried, Missed}
use Rattle.shared_board.specs.private.Seats.{known, IsAtRest, PenMoved}
use Rattle.shared_board.specs.Tries.{HasMissed}
use Rattle.std.specs.List.{last_or}

prefix_of : (xs between ys : List Entry) (e : Entry) → ys ≡ (xs ++ between) ++ e ∷ [] → IsPrefix xs ys
prefix_of xs between ys e is = (between ++ e ∷ [], sym (append_assoc xs between (e ∷ [])) ∙ sym is)

-- an answered call has made its entry
pub made_of : (p q : PassKnown) (e : Entry) → Answered p q e → Made p q (e ∷ [])
made_of p q e a = record { number = a.number; more = prefix_of p.seen a.seen.0 q.seen e a.seen.1; legal = a.legal; mine = a.mine }

pub made_more : (p q r : PassKnown) (es fs : List Entry) → Made p q es → Made q r fs → Made p r (es ++ fs)
made_more p q r es fs a b = record {
  number = b.number ∙ a.number;
  more = prefix_trans p.seen q.seen r.seen a.more b.more;
  legal = b.legal;
  mine = b.mine ∙ (ap (λ l. l ++ fs) a.mine ∙ append_assoc (mine p) es fs);
}

pub made_late : (p q r : PassKnown) (es : List Entry) → Unanswered p q → Made q r es → Made p r es
made_late p q r es a b = record {
  number = b.number ∙ a.number;
  more = prefix_trans p.seen q.seen r.seen a.more b.more;
  legal = b.legal;
  mine = b.mine ∙ ap (λ l. l ++ es) a.mine;
}

-- the entry that a call made last is the last of its pass
pub made_last : (p q : PassKnown) (e : Entry) → Made p q (e ∷ []) → last_or None (mine q) ≡ Some e
made_last p q e m = ap (last_or None) m.mine ∙ last_or-snoc None (mine p) e

-- the entries of a pass, with one more after those of others
mine_one : (n : ℕ) (xs between ys : List Entry) (e : Entry) → ys ≡ (xs ++ between) ++ e ∷ [] → entries_of n between ≡ [] → is_of n e ≡ true
    → entries_of n ys ≡ entries_of n xs ++ e ∷ []
mine_one n xs between ys e is none own =
    ap (entries_of n) is ∙ (entries_of-++ n (xs ++ between) (e ∷ []) ∙ (ap (λ l. entries_of n (xs ++ between) ++ l) (entries_of-own e n own)
    ∙ ap (λ l. l ++ e ∷ []) (entries_of-++ n xs between ∙ (ap (λ l. entries_of n xs ++ l) none ∙ append-nil (entries_of n xs)))))

-- a read or a clamp, made without the pen
pub heard_made : (n : ℕ) (v w : View) (e : Entry) → IsAtRest n v → Hears e v w → is_of n e ≡ true → Made (known n v) (known n w) (e ∷ [])
heard_made n v w e rest x own =
    let seen : w.seen ≡ (v.seen ++ x.0) ++ e ∷ [] = ap (λ u. u.seen) x.1 in
    record {
      number = refl;
      more = prefix_of v.seen x.0 w.seen e seen;
      legal = x.2.legal;
      mine = mine_one n v.seen x.0 w.seen e seen (x.2.own n rest.number) own;
    }

-- an entry that a pass made while it had the pen, after all that came with it
pub told_answered : (n : ℕ) (v w x y : View) (e : Entry) → IsAtRest n v → PenMoved w v x → Extends e x y → is_of n e ≡ true → Answered (known n v) (known n y) e
told_answered n v w x y e rest moved ext own =
    let seen : y.seen ≡ (x.seen ++ ext.0) ++ e ∷ [] = ap (λ u. u.seen) ext.1 in
    let more = moved.more in
    record {
      number = refl;
      misses = ap (λ u. u.misses) ext.1 ∙ moved.misses;
      seen = (more.0 ++ ext.0, seen ∙ ap (λ l. l ++ e ∷ []) (ap (λ l. l ++ ext.0) (sym more.1) ∙ append_assoc v.seen more.0 ext.0));
      legal = ext.3.legal;
      mine = mine_one n x.seen ext.0 y.seen e seen (ext.3.own n (moved.number ∙ rest.number)) own
          ∙ ap (λ l. l ++ e ∷ []) (moved.mine n rest.number);
    }

-- a turn with the pen in which no entry was made
pub moved_unanswered : (n : ℕ) (v w x y z : View) → IsAtRest n v → PenMoved w v x → IsLegal x.seen → y ≡ x → z.seen ≡ y.seen
    → Unanswered (known n v) (known n z)
moved_unanswered n v w x y z rest moved legal same left =
    let seen : z.seen ≡ x.seen = left ∙ ap (λ u. u.seen) same in
    record {
      number = refl;
      more = (moved.more.0, moved.more.1 ∙ sym seen);
      legal = subst IsLegal (sym seen) legal;
      mine = ap (entries_of n) seen ∙ moved.mine n rest.number;
    }

-- a read that met an update
pub missed_known : (n cpu first second : ℕ) (v w : View) → IsAtRest n v → HasMissed cpu first second v w → Missed cpu first second (known n v) (known n w)
missed_known n cpu first second v w rest m =
    let seen : w.seen ≡ v.seen = ap (λ u. u.seen) m.missed in
    record {
      unanswered = record {
        number = refl;
        more = ([], append-nil v.seen ∙ sym seen);
        legal = subst IsLegal (sym seen) rest.legal;
        mine = ap (entries_of n) seen;
      };
      misses = ap (λ u. u.misses) m.missed;
      least = m.least;
      update = m.update;
    }

pub missed_rests : (n cpu first second : ℕ) (v w : View) → IsAtRest n v → w ≡ missed cpu first second v → IsAtRest n w
missed_rests n cpu first second v w rest e = subst (IsAtRest n) (sym e)
    (record { number = rest.number; pen = rest.pen; hand = rest.hand; meet = rest.meet; ended = rest.ended; legal = rest.legal })

pub tried_on : (locked : Bool) (cpu : ℕ) (p q r : PassKnown) → Tried cpu locked p q → r.misses ≡ q.misses → Tried cpu locked p r
tried_on true cpu p q r t e = (t.0, t.1, e ∙ t.2, t.3, t.4)
tried_on false cpu p q r t e = e ∙ t
