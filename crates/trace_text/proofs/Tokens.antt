-- Tokens, by what a word spells.
use Rattle.std.proofs.Common.{◌≡◌, ℕ, ◌<◌, Bool, true, false, ◌||◌, cond, eqb, ltb, length, get_or, List, [], ◌∷◌, Option, Some, None, refl, arith}
use Rattle.std.specs.Prelude.{option_and_then}
use Rattle.std.specs.Option.{option_map}
use Rattle.std.proofs.lemmas.Bool.{lt-ltb, ne_eqb, ltb-false}
use Rattle.trace_text.specs.Tokens.{first, number_in, decimal_in, hex_in}
use Rattle.trace_text.specs.private.Spelled.{number_of, decimal_of, hex_of}
use Rattle.trace_text.specs.declared.bytes.Number.{Number}
use Rattle.trace_text.proofs.Numbers.{byte_fits}

-- what a word that spells n is
shaped : ℕ → Bool → ℕ → Number
shaped digits zero n = record { value = n; digits = digits; zero = zero }

-- DEC
decimal_in-is : (w : List ℕ) → decimal_in w ≡ option_and_then decimal_of (number_of 10 w)
unfolding decimal_in number_of shaped
decimal_in-is [] = none (number_in 10 [])
  where
    none : (o : Option ℕ) → None ≡ option_and_then decimal_of (option_map (shaped 0 (eqb 0 48)) o)
    none None = refl
    none (Some m) = refl
decimal_in-is (c ∷ []) = one (eqb c 48) (number_in 10 (c ∷ []))
  where
    one : (z : Bool) (o : Option ℕ)
        → o ≡ option_and_then decimal_of (option_map (shaped (length (c ∷ [])) z) o)
    one z None = refl
    one true (Some m) = refl
    one false (Some m) = refl
decimal_in-is (c ∷ d ∷ ds) = more (eqb c 48) (number_in 10 (c ∷ d ∷ ds)) (length (c ∷ d ∷ ds)) (omega arith)
  where
    more : (z : Bool) (o : Option ℕ) (k : ℕ) → 1 < k
        → cond z None o ≡ option_and_then decimal_of (option_map (shaped k z) o)
    more true None k h = refl
    more false None k h = refl
    more true (Some m) k h = rw (ne_eqb k 0 (λ e. omega arith), lt-ltb 1 k h) refl
    more false (Some m) k h = rw (ne_eqb k 0 (λ e. omega arith)) refl

pub dec-is : (ws : List (List ℕ)) → first decimal_in ws ≡ option_and_then decimal_of (first (number_of 10) ws)
dec-is [] = refl
dec-is (w ∷ ws) = decimal_in-is w

-- HEX and BYTE
hex_in-is : (most : ℕ) (w : List ℕ) → hex_in most w ≡ option_and_then (hex_of most) (number_of 16 w)
unfolding hex_in number_of shaped
hex_in-is most w = by_number (number_in 16 w)
  where
    none : (t : Bool) → cond t (let o : Option ℕ = None in o) None ≡ None
    none true = refl
    none false = refl

    by_number : (o : Option ℕ) → cond (eqb (length w) 0 || ltb most (length w)) None o
        ≡ option_and_then (hex_of most) (option_map (shaped (length w) (eqb (get_or w 0 0) 48)) o)
    by_number None = none (eqb (length w) 0 || ltb most (length w))
    by_number (Some m) = refl

pub hex-is : (most : ℕ) (ws : List (List ℕ)) → first (hex_in most) ws ≡ option_and_then (hex_of most) (first (number_of 16) ws)
hex-is most [] = refl
hex-is most (w ∷ ws) = hex_in-is most w

-- a BYTE fits one
pub byte-fits : (ws : List (List ℕ)) (n : ℕ) → first (hex_in 2) ws ≡ Some n → n < 256
unfolding hex_in
byte-fits [] n e = cc
byte-fits (w ∷ ws) n e = by_test (eqb (length w) 0) (ltb 2 (length w)) refl e
  where
    by_test : (a b : Bool) → ltb 2 (length w) ≡ b → cond (a || b) None (number_in 16 w) ≡ Some n → n < 256
    by_test true b is e = cc
    by_test false true is e = cc
    by_test false false is e = byte_fits w n (ltb-false 2 (length w) is) e
