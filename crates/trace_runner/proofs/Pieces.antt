-- Lemmas on a text that is put piece by piece.
use Rattle.std.proofs.Common.{
  ◌≡◌,
  ℕ,
  ◌≤◌,
  List,
  ◌++◌,
  length,
  take,
  drop,
  sym,
  ap,
  ◌∙◌,
  append_assoc,
}
use Rattle.std.proofs.Math.Seq.{take-append_seam}
use Rattle.std.proofs.lemmas.List.{take-append-drop, length-take-le}

-- the front of a buffer that was filled
pub filled_front : (left old new : List ℕ) (n : ℕ) → n ≤ length left → new ≡ take n left ++ drop n old → take n new ≡ take n left
filled_front left old new n within is_new =
    let long : length (take n left) ≡ n = length-take-le n left within in
    rw is_new (ap (λ (k : ℕ). take k (take n left ++ drop n old)) (sym long) ∙ take-append_seam (take n left) (drop n old))

-- a piece more was put
pub piece_more : (text put left : List ℕ) (n : ℕ) → text ≡ put ++ left → text ≡ put ++ take n left ++ drop n left
piece_more text put left n is =
    is ∙ ap (λ (l : List ℕ). put ++ l) (sym (take-append-drop n left)) ∙ sym (append_assoc put (take n left) (drop n left))

-- the front of a piece was put
pub piece_cut : (text put left cut more : List ℕ) (n : ℕ) → text ≡ put ++ left → take n left ≡ cut ++ more
    → text ≡ put ++ cut ++ (more ++ drop n left)
piece_cut text put left cut more n is front =
    is ∙ ap (λ (l : List ℕ). put ++ l)
    (sym (take-append-drop n left) ∙ ap (λ (l : List ℕ). l ++ drop n left) front ∙ append_assoc cut more (drop n left))
    ∙ sym (append_assoc put cut (more ++ drop n left))
