-- The header line `state`, by its first word and those after it.
use Rattle.std.proofs.Common.{◌≡◌, ℕ, ◌/◌, ◌%◌, Bool, true, false, cond, eqb, length, List, None, Ok, Err, refl, sym, ◌∙◌}
use Rattle.std.specs.Result.{result_ok}
use Rattle.std.specs.Prelude.{Result}
use Rattle.std.proofs.lemmas.Bool.{eq-eqb}
use Rattle.hex.specs.Hex.{decode_of, decode_pairs, decode_sized}
use Rattle.hex.specs.declared.error.FromHexError.{FromHexError}
use Rattle.hex.specs.declared.error.FromHexError.TheVariants.{OddLength, InvalidStringLength}

-- what is decoded into room for as many bytes as there are pairs of digits
sized : (digits : List ℕ) (n : ℕ) → n ≡ length digits / 2 → decode_sized digits n ≡ decode_of digits
sized digits n half = by_odd (eqb (length digits % 2) 1)
  where
    room : eqb (length digits / 2) n ≡ true
    room = eq-eqb (length digits / 2) n (sym half)

    by_odd : (odd : Bool)
        → cond odd (Err OddLength) (cond (eqb (length digits / 2) n) (decode_pairs 0 digits) (Err InvalidStringLength))
        ≡ cond odd (Err OddLength) (decode_pairs 0 digits)
    by_odd true = refl
    by_odd false = rw room refl

-- digits that aren't decoded are no bytes
pub not_decoded : (digits : List ℕ) (n : ℕ) → n ≡ length digits / 2
    → ((bytes : List ℕ) → decode_sized digits n ≡ Ok bytes → ⊥) → result_ok (decode_of digits) ≡ None
not_decoded digits n half none = by_pairs (decode_of digits) (λ bytes e. none bytes (sized digits n half ∙ e))
  where
    by_pairs : (d : Result (List ℕ) FromHexError) → ((bytes : List ℕ) → d ≡ Ok bytes → ⊥) → result_ok d ≡ None
    by_pairs (Ok bytes) h = absurd (h bytes refl)
    by_pairs (Err e) h = refl
