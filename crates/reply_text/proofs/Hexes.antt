-- Lemmas on hexadecimal digits.
use Rattle.std.proofs.Common.{
  ◌≡◌,
  ℕ,
  zero,
  suc,
  ◌+◌,
  ◌*◌,
  ◌/◌,
  ◌%◌,
  ◌-◌,
  ◌<◌,
  Bool,
  true,
  ◌&&◌,
  T,
  eqb,
  List,
  [],
  ◌∷◌,
  ◌++◌,
  length,
  take,
  drop,
  get_or,
  refl,
  sym,
  ap,
  ◌∙◌,
  subst,
  inl,
  inr,
  arith,
  eq-zero-or-pos,
  eqb→eq,
  append_assoc,
  length-append,
}
use Rattle.std.specs.Char.{digit_char}
use Rattle.std.proofs.Math.Seq.{take-append_seam}
use Rattle.std.proofs.lemmas.List.{take-append-drop}
use lib.Ieee.Fits.{and_l, and_r}
use Rattle.reply_text.specs.Words.{hex_text, hexes}
use Rattle.reply_text.specs.declared.digits.TheConstants.{PAIRS}

-- a table has the two digits of the first numbers
abbrev are_pairs : List ℕ → ℕ → Bool
are_pairs table zero = true
are_pairs table (suc n) =
    eqb (get_or table (2 * n) 0) (digit_char (n / 16))
    && (eqb (get_or table (2 * n + 1) 0) (digit_char (n % 16)) && are_pairs table n)

pairs_below : (table : List ℕ) (n b : ℕ) → T (are_pairs table n) → b < n
    → (get_or table (2 * b) 0 ≡ digit_char (b / 16)) × (get_or table (2 * b + 1) 0 ≡ digit_char (b % 16))
pairs_below table zero b t h = absurd (omega arith)
pairs_below table (suc n) b t h =
    let high : Bool = eqb (get_or table (2 * n) 0) (digit_char (n / 16)) in
    let low : Bool = eqb (get_or table (2 * n + 1) 0) (digit_char (n % 16)) in
    let more : T (low && are_pairs table n) = and_r high (low && are_pairs table n) t in
    elim (eq-zero-or-pos (n - b)) [
      | inl z ↦
          let e : b ≡ n = omega arith in
          rw e (eqb→eq _ _ (and_l high (low && are_pairs table n) t), eqb→eq _ _ (and_l low (are_pairs table n) more))
      | inr g ↦ pairs_below table n b (and_r low (are_pairs table n) more) (omega arith)
    ]

pub PAIRS_at : (b : ℕ) → b < 256
    → (get_or PAIRS (2 * b) 0 ≡ digit_char (b / 16)) × (get_or PAIRS (2 * b + 1) 0 ≡ digit_char (b % 16))
PAIRS_at b h = pairs_below PAIRS 256 b tt h

-- one digit more, by a number that counts down
pub hex_text-more : (k j n : ℕ) → k ≡ j + 1 → hex_text k n ≡ hex_text j (n / 16) ++ digit_char (n % 16) ∷ []
unfolding hex_text
hex_text-more k j n e = subst (λ (m : ℕ). hex_text m n ≡ hex_text j (n / 16) ++ digit_char (n % 16) ∷ []) (let next : suc j ≡ k = omega arith in next) refl

-- one digit after the others is one before the rest
hex_step : (k j n : ℕ) (rest all : List ℕ) → k ≡ j + 1 → hex_text k n ++ rest ≡ all → hex_text j (n / 16) ++ digit_char (n % 16) ∷ rest ≡ all
hex_step k j n rest all e h =
    sym (ap (λ (t : List ℕ). t ++ rest) (hex_text-more k j n e) ∙ append_assoc (hex_text j (n / 16)) (digit_char (n % 16) ∷ []) rest)
    ∙ h

-- the step of a loop that writes two of them, from the last to the first
pub pair_step : (k j n : ℕ) (rest all : List ℕ) → k ≡ j + 2 → hex_text k n ++ rest ≡ all
    → hex_text j (n / 256) ++ digit_char (n % 256 / 16) ∷ digit_char (n % 256 % 16) ∷ rest ≡ all
pair_step k j n rest all e h =
    let left : n / 256 ≡ n / 16 / 16 = omega arith in
    let high : n % 256 / 16 ≡ n / 16 % 16 = omega arith in
    let low : n % 256 % 16 ≡ n % 16 = omega arith in
    let one = hex_step k (j + 1) n rest all (omega arith) h in
    rw (left, high, low) (hex_step (j + 1) j (n / 16) (digit_char (n % 16) ∷ rest) all refl one)

-- digits of bytes, one list after another
pub hexes-append : (xs ys : List ℕ) → hexes (xs ++ ys) ≡ hexes xs ++ hexes ys
unfolding hexes
hexes-append [] ys = refl
hexes-append (x ∷ xs) ys = ap (λ (l : List ℕ). digit_char (x / 16) ∷ digit_char (x % 16) ∷ l) (hexes-append xs ys)

-- two digits a byte
pub length-hexes : (xs : List ℕ) → length (hexes xs) ≡ 2 * length xs
unfolding hexes
length-hexes [] = refl
length-hexes (x ∷ xs) = omega (arith, length-hexes xs)

-- the first n bytes have their two digits in a text
abbrev pub AreDigits : List ℕ → List ℕ → ℕ → Type 0
AreDigits xs text n = (j : ℕ) → j < n
    → (get_or text (2 * j) 0 ≡ digit_char (get_or xs j 0 / 16)) × (get_or text (2 * j + 1) 0 ≡ digit_char (get_or xs j 0 % 16))

-- all of them are the text
pub digits-all : (xs text : List ℕ) → length text ≡ 2 * length xs → AreDigits xs text (length xs) → text ≡ hexes xs
unfolding hexes
digits-all [] [] len each = refl
digits-all [] (t ∷ text) len each = absurd (omega (arith, len))
digits-all (x ∷ xs) [] len each = absurd (omega (arith, len))
digits-all (x ∷ xs) (t ∷ []) len each = absurd (omega (arith, len))
digits-all (x ∷ xs) (h ∷ l ∷ text) len each =
    let rest : AreDigits xs text (length xs) = λ j less.
    let high : 2 * suc j ≡ suc (suc (2 * j)) = omega arith in
    let low : 2 * suc j + 1 ≡ suc (suc (2 * j + 1)) = omega arith in
    let both = each (suc j) (omega arith) in (
      sym (ap (λ (i : ℕ). get_or (h ∷ l ∷ text) i 0) high) ∙ both.0,
      sym (ap (λ (i : ℕ). get_or (h ∷ l ∷ text) i 0) low) ∙ both.1,
    ) in
    λ i. (each 0 (omega arith)).0 i ∷ (each 0 (omega arith)).1 i ∷ digits-all xs text (omega (arith, len)) rest i

-- the digits of a front and of what is left
pub hexes-take-drop : (n : ℕ) (xs : List ℕ) → hexes (take n xs) ++ hexes (drop n xs) ≡ hexes xs
hexes-take-drop n xs = sym (hexes-append (take n xs) (drop n xs)) ∙ ap hexes (take-append-drop n xs)

-- the digits of a front are those before the others
pub take-hexes : (xs ys : List ℕ) → take (2 * length xs) (hexes (xs ++ ys)) ≡ hexes xs
take-hexes xs ys =
    ap (λ (t : List ℕ). take (2 * length xs) t) (hexes-append xs ys)
    ∙ ap (λ (n : ℕ). take n (hexes xs ++ hexes ys)) (sym (length-hexes xs)) ∙ take-append_seam (hexes xs) (hexes ys)

-- no digits
pub hex_text-none : (k n : ℕ) (rest : List ℕ) → k ≡ 0 → rest ≡ hex_text k n ++ rest
unfolding hex_text
hex_text-none k n rest e = subst (λ (m : ℕ). rest ≡ hex_text m n ++ rest) (sym e) refl

-- as many digits as were asked for
pub length-hex_text : (k n : ℕ) → length (hex_text k n) ≡ k
unfolding hex_text
length-hex_text zero n = refl
length-hex_text (suc k) n =
    length-append (hex_text k (n / 16)) (digit_char (n % 16) ∷ []) ∙ omega (arith, length-hex_text k (n / 16))
