-- Lemmas on the numbers that digits spell.
use Rattle.std.proofs.Common.{
  ◌≡◌,
  ℕ,
  ◌+◌,
  ◌*◌,
  ◌<◌,
  ◌≤◌,
  Bool,
  true,
  false,
  ◌&&◌,
  cond,
  ltb,
  length,
  List,
  [],
  ◌∷◌,
  Option,
  Some,
  None,
  refl,
  sym,
  ◌∙◌,
  inl,
  inr,
  arith,
}
use Rattle.std.specs.Char.{digit_value}
use Rattle.std.specs.Str.Parse.{digits_value_after}
use Rattle.std.proofs.lemmas.Bool.{lt-ltb, le-ltb, ltb-true, cases_lt}
use Rattle.std.proofs.Math.Nat.{le-mul_of_pos_right}
use Rattle.trace_text.specs.Tokens.{number_in, are_digits}

-- the number with one digit more, and whether it is one below 2^64
abbrev pub with_digit : ℕ → ℕ → ℕ → ℕ
with_digit base n c = n * base + digit_value c

abbrev pub may_read : ℕ → ℕ → ℕ → Bool
may_read base n c = ltb (digit_value c) base && ltb (with_digit base n c) 18446744073709551616

-- the digits after those that gave n, read one by one
abbrev pub number_after : ℕ → ℕ → List ℕ → Option ℕ
number_after base n [] = Some n
number_after base n (c ∷ cs) = cond (may_read base n c) (number_after base (with_digit base n c) cs) None

-- the number that all digits spell, if they are digits and it is below 2^64
abbrev number_of_all : ℕ → ℕ → List ℕ → Bool → Option ℕ
number_of_all base n cs digits =
    let value : ℕ = digits_value_after base n cs in
    cond (digits && ltb value 18446744073709551616) (Some value) None

-- more digits, no less
pub after_ge : (base n : ℕ) (cs : List ℕ) → 0 < base → n ≤ digits_value_after base n cs
after_ge base n [] h = omega arith
after_ge base n (c ∷ cs) h =
    let m : ℕ = with_digit base n c in
    let rest : m ≤ digits_value_after base m cs = after_ge base m cs h in
    let more : n ≤ n * base = le-mul_of_pos_right n h in
    omega arith

-- they are the number that all digits spell
pub number_after-is : (base n : ℕ) (cs : List ℕ) → 0 < base → n < 18446744073709551616
    → number_after base n cs ≡ number_of_all base n cs (are_digits base cs)
number_after-is base n [] h fits = rw (lt-ltb n 18446744073709551616 fits) refl
number_after-is base n (c ∷ cs) h fits = elim (cases_lt (with_digit base n c) 18446744073709551616) [
  | inl small ↦
      rw (lt-ltb (with_digit base n c) 18446744073709551616 small)
      (by_digit (ltb (digit_value c) base) (number_after-is base (with_digit base n c) cs h small))
  | inr large ↦
      let all : 18446744073709551616 ≤ digits_value_after base (with_digit base n c) cs =
      omega (arith, after_ge base (with_digit base n c) cs h) in
      rw (
        le-ltb (with_digit base n c) 18446744073709551616 large,
        le-ltb (digits_value_after base (with_digit base n c) cs) 18446744073709551616 all,
      )
      (none (ltb (digit_value c) base) (are_digits base cs))
]
  where
    by_digit : (b : Bool)
        → number_after base (with_digit base n c) cs
        ≡ number_of_all base (with_digit base n c) cs (are_digits base cs)
        → cond (b && true) (number_after base (with_digit base n c) cs) None
        ≡ number_of_all base (with_digit base n c) cs (b && are_digits base cs)
    by_digit true e = e
    by_digit false e = refl

    none : (b d : Bool) → cond (b && false) (number_after base (with_digit base n c) cs) None
        ≡ cond ((b && d) && false) (Some (digits_value_after base (with_digit base n c) cs)) None
    none true true = refl
    none true false = refl
    none false d = refl

-- from the first digit on
pub number_in-is : (base : ℕ) (cs : List ℕ) → 0 < base → number_in base cs ≡ number_after base 0 cs
unfolding number_in
number_in-is base cs h = sym (number_after-is base 0 cs h (omega arith))

-- what a digit that is read shows
digit_read : (c m : ℕ) (rest : Option ℕ) (k : ℕ)
    → cond (ltb (digit_value c) 16 && ltb m 18446744073709551616) rest None ≡ Some k
    → (digit_value c < 16) × (rest ≡ Some k)
digit_read c m rest k h = shown (ltb (digit_value c) 16) (ltb m 18446744073709551616) refl h
  where
    shown : (a b : Bool) → ltb (digit_value c) 16 ≡ a → cond (a && b) rest None ≡ Some k
        → (digit_value c < 16) × (rest ≡ Some k)
    shown true true is h = (ltb-true (digit_value c) 16 is, h)
    shown true false is h = cc
    shown false b is h = cc

-- at most two hexadecimal digits spell a byte
two_digits : (cs : List ℕ) (n : ℕ) → length cs ≤ 2 → number_after 16 0 cs ≡ Some n → n < 256
two_digits [] n short h = let e : 0 ≡ n = cc in omega arith
two_digits (c ∷ []) n short h =
    let m : ℕ = with_digit 16 0 c in
    let first : (digit_value c < 16) × (◌≡◌ {A = Option ℕ} (Some m) (Some n)) =
    digit_read c m (Some m) n h in
    let e : m ≡ n = cc in
    omega (arith, first.0, e)
two_digits (c ∷ d ∷ []) n short h =
    let m : ℕ = with_digit 16 0 c in
    let k : ℕ = with_digit 16 m d in
    let first : (digit_value c < 16) × (number_after 16 m (d ∷ []) ≡ Some n) =
    digit_read c m (number_after 16 m (d ∷ [])) n h in
    let second : (digit_value d < 16) × (◌≡◌ {A = Option ℕ} (Some k) (Some n)) =
    digit_read d k (Some k) n first.1 in
    let e : k ≡ n = cc in
    omega (arith, first.0, second.0, e)
two_digits (c ∷ d ∷ e ∷ es) n short h = absurd (omega arith)

-- so they fit a byte
pub byte_fits : (word : List ℕ) (n : ℕ) → length word ≤ 2 → number_in 16 word ≡ Some n → n < 256
byte_fits word n short e = two_digits word n short (sym (number_in-is 16 word (omega arith)) ∙ e)
