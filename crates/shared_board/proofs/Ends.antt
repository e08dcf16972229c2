-- The end of a board.
use Rattle.std.proofs.Common.{
  ◌≡◌,
  ℕ,
  ◌≤◌,
  List,
  [],
  ◌∷◌,
  ◌++◌,
  length,
  map,
  refl,
  ap,
  sym,
  ◌∙◌,
  subst,
  arith,
  append_assoc,
  Option,
  Bool,
  true,
  if◌then◌else◌,
  ◌||◌,
}
use mathlib.Core.List.{map-append}
use lib.ListN.{length-map}
use Rattle.board_types.specs.declared.parts.BoardParts.{BoardParts}
use Rattle.board_core.specs.Pages.{with_greatest}
use Rattle.board_history.specs.History.{board_after}
use Rattle.board_history.specs.declared.entry.Entry.{Entry}
use Rattle.clock_table.specs.declared.view.View.{View}
use Rattle.clock_table.specs.declared.view.Ended.{Ended}
use Rattle.clock_table.specs.Ends.{IsWhole, EndedTold}
use Rattle.clock_table.specs.Steps.{met, parted, MeetTold, ended_of, GoesOnQuietly}
use Rattle.clock_table.proofs.Keeps.{quiet_more}
use Rattle.clock_table.proofs.EndSteps.{ended_most}
use Rattle.shared_board.specs.declared.known.PassKnown.{PassKnown}
use Rattle.shared_board.specs.Stops.{PassesTold}
use Rattle.shared_board.specs.private.Seats.{known, IsAtRest, AreAlike, ended_item, IsJoining}

-- one pass more has joined
pub joining_next : (m n found : ℕ) (ps : List PassKnown) (first : List Entry) (v w w' : View) → IsAtRest n w → w' ≡ parted (met v w)
    → MeetTold (met v w) found → IsJoining m ps first v → IsJoining m (ps ++ known n w ∷ []) first w'
joining_next m n found ps first v w w' rest is told j =
    subst (IsJoining m (ps ++ known n w ∷ []) first) (sym is) (record {
      number = j.number;
      pen = pen;
      hand = refl;
      meet = refl;
      made = made;
      ended = ap (λ (z : List Ended). z ++ (w.ended ++ ended_of w.number w)) j.ended
          ∙ (ap (λ (z : List Ended × Option ℕ). map ended_item ps ++ (z.0 ++ ended_of z.1 w)) (λ i. (rest.ended i, rest.number i))
          ∙ sym (map-append ended_item ps (known n w ∷ [])));
      once = λ k. let o = told.once k in omega arith;
      below = λ k c. let b = told.below k pen (omega arith) in omega (arith, made);
      quiet =
          let q = subst (λ (l : List Entry). GoesOnQuietly l (met v w).seen) (ap (λ (b : Bool). if b then v.seen else w.seen) j.pen) (told.pen pen) in
          (j.quiet.0 ++ q.0, sym (append_assoc first j.quiet.0 q.0) ∙ (ap (λ l. l ++ q.0) j.quiet.1 ∙ q.1), quiet_more j.quiet.0 q.0 j.quiet.2 q.2);
    })
  where
    pen : v.pen || w.pen ≡ true
    pen = ap (λ (b : Bool). b || w.pen) j.pen

    made : (if v.pen then v.made else w.made) ≡ m
    made = ap (λ (b : Bool). if b then v.made else w.made) j.pen ∙ j.made

pub joined_whole : (m : ℕ) (ps : List PassKnown) (first : List Entry) (v : View) → IsJoining m ps first v → m ≤ length ps → IsWhole m v
joined_whole m ps first v j enough = record {
  pen = j.pen;
  hand = j.hand;
  meet = j.meet;
  number = j.number;
  made = j.made;
  all = (let most = ended_most m v.ended j.once j.below in let same = ap length j.ended ∙ length-map ps ended_item in omega arith);
}

pub passes_told : (h : List Entry) (ps : List PassKnown) → EndedTold h (map ended_item ps) → PassesTold h ps
passes_told h [] t = tt
passes_told h (p ∷ ps) t = (t.0, t.1, t.2, passes_told h ps t.3)

pub state_told : (b : BoardParts) (h : List Entry) (g : ℕ) → AreAlike b (board_after h) → g ≡ (board_after h).greatest → with_greatest b g ≡ board_after h
state_told b h g alike is =
    ap (λ (x : BoardParts). with_greatest x g) alike ∙ ap (λ (k : ℕ). with_greatest (board_after h) k) is
