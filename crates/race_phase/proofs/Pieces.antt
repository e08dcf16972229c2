-- A text in pieces, one of which grows, or one piece longer.
use Rattle.std.proofs.Common.{
  ◌≡◌,
  ℕ,
  zero,
  suc,
  ◌+◌,
  ◌-◌,
  ◌<◌,
  List,
  [],
  ◌∷◌,
  ◌++◌,
  length,
  get_or,
  set,
  sym,
  ap,
  ◌∙◌,
  arith,
  append_assoc,
  append-nil,
  Result,
  Ok,
  Err,
  OnOk,
  OnErr,
  is_ok,
  if◌then◌else◌,
}
use Rattle.std.specs.List.{flat_map}

-- what is put onto the last piece comes after them all
flat_map-set : {X A : Type 0} (f : X → List A) (xs : List X) (i : ℕ) (x d : X) (more : List A) → i + 1 ≡ length xs → f x ≡ f (get_or xs i d) ++ more
    → flat_map f (set xs i x) ≡ flat_map f xs ++ more
flat_map-set f [] i x d more last is = absurd (omega arith)
flat_map-set f (y ∷ []) zero x d more last is = append-nil (f x) ∙ is ∙ ap (λ l. l ++ more) (sym (append-nil (f y)))
flat_map-set f (y ∷ z ∷ zs) zero x d more last is = absurd (omega arith)
flat_map-set f (y ∷ []) (suc i) x d more last is = absurd (omega arith)
flat_map-set f (y ∷ z ∷ zs) (suc i) x d more last is =
    ap (λ l. f y ++ l) (flat_map-set f (z ∷ zs) i x d more (omega arith) is) ∙ sym (append_assoc (f y) (flat_map f (z ∷ zs)) more)

pub flat_map-last : {X A : Type 0} (f : X → List A) (xs : List X) (n : ℕ) (x d : X) (more : List A) → n ≡ length xs → 0 < n
    → f x ≡ f (get_or xs (n - 1) d) ++ more
    → flat_map f (set xs (n - 1) x) ≡ flat_map f xs ++ more
flat_map-last f xs n x d more len some is = flat_map-set f xs (n - 1) x d more (omega arith) is

-- and a last piece that stays leaves them
pub flat_map-same : {X A : Type 0} (f : X → List A) (xs : List X) (n : ℕ) (x d : X) → n ≡ length xs → 0 < n → f x ≡ f (get_or xs (n - 1) d)
    → flat_map f (set xs (n - 1) x) ≡ flat_map f xs
flat_map-same f xs n x d len some is = flat_map-last f xs n x d [] len some (is ∙ sym (append-nil (f (get_or xs (n - 1) d)))) ∙ append-nil (flat_map f xs)

-- what a call appends, where it is well, and leaves, where it is not
module _ {T E U F L : Type 0} where
  pub grown : (r : Result T E) (told : Result U F) (old new more : L) → is_ok told ≡ is_ok r → new ≡ (if is_ok r then more else old)
      → OnOk told (new ≡ more)
  grown (Ok x) (Ok y) old new more same is = is
  grown (Err x) (Ok y) old new more same is = cc
  grown r (Err y) old new more same is = tt

  pub kept : (r : Result T E) (told : Result U F) (old new more : L) → is_ok told ≡ is_ok r → new ≡ (if is_ok r then more else old)
      → OnErr told (new ≡ old)
  kept (Ok x) (Err y) old new more same is = cc
  kept (Err x) (Err y) old new more same is = is
  kept r (Ok y) old new more same is = tt
