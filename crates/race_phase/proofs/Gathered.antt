-- What the workers of a phase give, one after another.
use Rattle.std.proofs.Common.{◌≡◌, ℕ, ◌+◌, ◌<◌, List, [], ◌∷◌, ◌++◌, length, length-append, refl, subst, arith, All}
use Rattle.std.proofs.Math.ListN.{get_or-append}
use Rattle.std.proofs.Math.Seq.{get_or-append_seam}
use Rattle.trace_blocks.specs.declared.deliveries.Deliveries.{Deliveries}
use Rattle.board_types.specs.declared.parts.BoardParts.{BoardParts}
use Rattle.shared_board.specs.declared.known.PassKnown.{PassKnown}
use Rattle.trace_blocks.specs.declared.ends.End.{End}
use Rattle.race_phase.specs.declared.phases.Phase.{Phase}
use Rattle.race_phase.specs.declared.piece.Part.{Part}
use Rattle.race_phase.specs.private.Feed.{GatheredAll, HasRun}
use Rattle.race_phase.specs.private.Workers.{AllWorked, HasWorked}
use Rattle.race_phase.proofs.Parts.{same_phase}
use Rattle.race_phase.proofs.Workers.{worked-snoc}

-- what is true of all but the last, and of the last
module _ {A : Type 0} (P : A → Type 0) (xs : List A) (x : A) (all : All P (xs ++ x ∷ [])) where
  pub all_front : All P xs
  all_front i d l =
      let more : i < length (xs ++ x ∷ []) = let e = length-append xs (x ∷ []) in omega arith in
      subst P (get_or-append xs (x ∷ []) d i l) (all i d more)

  pub all_last : P x
  all_last =
      let more : length xs < length (xs ++ x ∷ []) = let e = length-append xs (x ∷ []) in omega arith in
      subst P (get_or-append_seam xs x [] x) (all (length xs) x more)

module _ (s : BoardParts) (ds : Deliveries) where
  -- one pass more, which has run the same phase as those before it, if there are any
  pub gathered_more : (ps qs : List Part) (e d : End) (ns : List PassKnown) (out : List ℕ) (p : PassKnown) (zs : List ℕ) (n : ℕ)
      → (length ns ≡ 0 → out ≡ []) → (0 < length ns → ps ≡ qs) → (0 < length ns → GatheredAll s ds ps e ns out)
      → HasRun s ds qs d n p zs → n ≡ length ns → GatheredAll s ds qs d (ns ++ p ∷ []) (out ++ zs)
  gathered_more ps qs e d [] out p zs n none same before ran is =
      let w : Phase = ran.0 in
      let at : n ≡ 0 + 0 = omega (arith, is) in record {
        v = w;
        phase = ran.1;
        worked = worked-snoc s ds w.records 0 [] out p zs (none refl) (subst (λ (k : ℕ). HasWorked s ds w.records k p zs) at ran.2);
      }
  gathered_more ps qs e d (m ∷ ms) out p zs n none same before ran is =
      let some : 0 < length (m ∷ ms) = omega arith in
      let all : GatheredAll s ds ps e (m ∷ ms) out = before some in
      let w : Phase = ran.0 in
      let one : all.v ≡ w = same_phase s ps qs e d all.v w (same some) all.phase ran.1 in
      let worked : AllWorked s ds w.records 0 (m ∷ ms) out = subst (λ (u : Phase). AllWorked s ds u.records 0 (m ∷ ms) out) one all.worked in
      let at : n ≡ 0 + length (m ∷ ms) = omega (arith, is) in record {
        v = w;
        phase = ran.1;
        worked = worked-snoc s ds w.records 0 (m ∷ ms) out p zs worked (subst (λ (k : ℕ). HasWorked s ds w.records k p zs) at ran.2);
      }
