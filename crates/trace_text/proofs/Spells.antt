-- Lemmas on a line that is read byte by byte.
use Rattle.std.proofs.Common.{
  ◌≡◌,
  ℕ,
  ◌+◌,
  ◌-◌,
  ◌*◌,
  ◌^◌,
  ◌<◌,
  ◌≤◌,
  Bool,
  true,
  false,
  cond,
  eqb,
  length,
  drop,
  get_or,
  List,
  [],
  subst,
  sym,
  ◌∷◌,
  Some,
  None,
  refl,
  ap,
  ◌∙◌,
  inl,
  inr,
  arith,
}
use Rattle.std.proofs.Math.Nat.{mul_comm}
use Rattle.std.specs.Char.{digit_value}
use Rattle.std.proofs.lemmas.Bool.{cases_lt, lt-ltb, le-ltb, eq-eqb, ne_eqb, le-leb, lt-leb}
use Rattle.std.proofs.lemmas.List.{at_drop_more, drop_more}
use Rattle.std.proofs.lemmas.Grind.{pow_more}
use Rattle.std.proofs.Math.Nat.{mul-le-mul_left, pow-le-pow_right}
use Rattle.std.proofs.Math.ListN.{drop_of_length-le}
use Rattle.trace_text.specs.Tokens.{words_of}
use Rattle.trace_text.specs.private.Spelled.{spelled, after_word, words_from}

-- the words from a place within the line, and from after it
pub words_from-within : (at : ℕ) (line : List ℕ) → at ≤ length line → words_from at line ≡ words_of (drop at line)
unfolding words_from
words_from-within at line h = rw (le-leb at (length line) h) refl

pub words_from-after : (at : ℕ) (line : List ℕ) → length line < at → words_from at line ≡ []
unfolding words_from
words_from-after at line h = rw (lt-leb at (length line) h) refl

-- a space ends a number
pub spelled-space : (base count n i : ℕ) (xs : List ℕ) → i < length xs → get_or xs i 0 ≡ 32
    → spelled base count n (drop i xs) ≡ Some (record { count = count; value = n; left = words_from (i + 1) xs })
unfolding spelled
spelled-space base count n i xs h e =
    at_drop_more (spelled base count n) xs i 0 h ∙ rw (eq-eqb (get_or xs i 0) 32 e, words_from-within (i + 1) xs (omega arith)) refl

-- and so does the line's end
pub spelled-end : (base count n i : ℕ) (xs : List ℕ) → length xs ≤ i
    → spelled base count n (drop i xs) ≡ Some (record { count = count; value = n; left = words_from (i + 1) xs })
unfolding spelled
spelled-end base count n i xs h = rw (drop_of_length-le xs h, words_from-after (i + 1) xs (omega arith)) refl

-- where no other byte than a space is, it ends
pub spelled-ended : (base count n i : ℕ) (xs : List ℕ) → (i < length xs → get_or xs i 0 ≡ 32)
    → spelled base count n (drop i xs) ≡ Some (record { count = count; value = n; left = words_from (i + 1) xs })
spelled-ended base count n i xs space =
    elim (cases_lt i (length xs)) [
      | inl inside ↦ spelled-space base count n i xs inside (space inside)
      | inr past ↦ spelled-end base count n i xs past
    ]

-- what is no digit spells nothing
pub spelled-no_digit : (base count n i : ℕ) (xs : List ℕ) → i < length xs → (get_or xs i 0 ≡ 32 → ⊥) → base ≤ digit_value (get_or xs i 0)
    → spelled base count n (drop i xs) ≡ None
unfolding spelled
spelled-no_digit base count n i xs h other large =
    at_drop_more (spelled base count n) xs i 0 h ∙ rw (ne_eqb (get_or xs i 0) 32 other, le-ltb (digit_value (get_or xs i 0)) base large) refl

-- nor does what is too large
pub spelled-too_large : (base count n i : ℕ) (xs : List ℕ) → i < length xs → (get_or xs i 0 ≡ 32 → ⊥) → digit_value (get_or xs i 0) < base
    → 18446744073709551616 ≤ n * base + digit_value (get_or xs i 0) → spelled base count n (drop i xs) ≡ None
unfolding spelled
spelled-too_large base count n i xs h other small large =
    at_drop_more (spelled base count n) xs i 0 h
    ∙ rw (
      ne_eqb (get_or xs i 0) 32 other,
      lt-ltb (digit_value (get_or xs i 0)) base small,
      le-ltb (n * base + digit_value (get_or xs i 0)) 18446744073709551616 large,
    )
    refl

-- a digit more
pub spelled-more : (base count n i : ℕ) (xs : List ℕ) → i < length xs → (get_or xs i 0 ≡ 32 → ⊥) → digit_value (get_or xs i 0) < base
    → n * base + digit_value (get_or xs i 0) < 18446744073709551616
    → spelled base count n (drop i xs) ≡ spelled base (count + 1) (n * base + digit_value (get_or xs i 0)) (drop (i + 1) xs)
unfolding spelled
spelled-more base count n i xs h other small fits =
    at_drop_more (spelled base count n) xs i 0 h
    ∙ rw (
      ne_eqb (get_or xs i 0) 32 other,
      lt-ltb (digit_value (get_or xs i 0)) base small,
      lt-ltb (n * base + digit_value (get_or xs i 0)) 18446744073709551616 fits,
    )
    refl

-- a space is no digit
pub not_space : (base b : ℕ) → base ≤ 16 → digit_value b < base → b ≡ 32 → ⊥
not_space base b most small e =
    let value : digit_value b ≡ 36 = ap digit_value e in
    omega arith

-- another byte than the word's
pub word-differs : (at i : ℕ) (name line : List ℕ) → i < length name → at + i < length line → (get_or line (at + i) 0 ≡ get_or name i 0 → ⊥)
    → after_word (drop i name) (drop (at + i) line) ≡ None
unfolding after_word
word-differs at i name line h k other =
    rw (drop_more name i 0 h, drop_more line (at + i) 0 k, ne_eqb (get_or line (at + i) 0) (get_or name i 0) other) refl

-- the word's byte
pub word-same : (at i : ℕ) (name line : List ℕ) → i < length name → at + i < length line → get_or line (at + i) 0 ≡ get_or name i 0
    → after_word (drop i name) (drop (at + i) line) ≡ after_word (drop (i + 1) name) (drop (at + i + 1) line)
unfolding after_word
word-same at i name line h k same =
    rw (drop_more name i 0 h, drop_more line (at + i) 0 k, eq-eqb (get_or line (at + i) 0) (get_or name i 0) same) refl

-- after its bytes the line ends, or a space comes, or it is a longer word
pub word-at_end : (at : ℕ) (line : List ℕ) → length line ≤ at → after_word [] (drop at line) ≡ Some (words_from (at + 1) line)
unfolding after_word
word-at_end at line h = rw (drop_of_length-le line h, words_from-after (at + 1) line (omega arith)) refl

pub word-at_space : (at : ℕ) (line : List ℕ) → at < length line → get_or line at 0 ≡ 32 → after_word [] (drop at line) ≡ Some (words_from (at + 1) line)
unfolding after_word
word-at_space at line h e = rw (drop_more line at 0 h, eq-eqb (get_or line at 0) 32 e, words_from-within (at + 1) line (omega arith)) refl

pub word-longer : (at : ℕ) (line : List ℕ) → at < length line → (get_or line at 0 ≡ 32 → ⊥) → after_word [] (drop at line) ≡ None
unfolding after_word
word-longer at line h other = rw (drop_more line at 0 h, ne_eqb (get_or line at 0) 32 other) refl

-- too few bytes are left
pub word-short : (bs cs : List ℕ) → length cs < length bs → after_word bs cs ≡ None
unfolding after_word
word-short [] cs h = absurd (omega arith)
word-short (b ∷ bs) [] h = refl
word-short (b ∷ bs) (c ∷ cs) h =
    elim (eqb c b) as (λ (same : Bool). cond same (after_word bs cs) None ≡ None) [
      | true ↦ word-short bs cs (omega arith)
      | false ↦ refl
    ]

-- a digit, and a space or the line's end
pub one_digit : (base at digit : ℕ) (line : List ℕ) → base ≤ 16 → digit_value (get_or line at 0) ≡ digit → digit < base
    → at < length line → (at + 1 < length line → get_or line (at + 1) 0 ≡ 32)
    → spelled base 0 0 (drop at line)
    ≡ Some (record { count = at + 1 - at; value = digit; left = words_from (at + 1 + 1) line })
one_digit base at digit line most same small h space =
    let byte : ℕ = get_or line at 0 in
    let less : digit_value byte < base = omega arith in
    let fits : 0 * base + digit_value byte < 18446744073709551616 = omega arith in
    let value : 0 * base + digit_value byte ≡ digit = omega arith in
    let count : at + 1 - at ≡ 0 + 1 = omega arith in
    let more = spelled-more base 0 0 at line (omega arith) (not_space base byte most less) less fits in
    rw (count) (more ∙ rw value (spelled-ended base (0 + 1) digit (at + 1) line space))

-- two digits, and a space or the line's end
pub two_digits : (base at high low : ℕ) (line : List ℕ) → base ≤ 16
    → digit_value (get_or line at 0) ≡ high → high < base → digit_value (get_or line (at + 1) 0) ≡ low → low < base
    → base * high + low < 18446744073709551616
    → at + 2 ≤ length line → (at + 2 < length line → get_or line (at + 2) 0 ≡ 32)
    → spelled base 0 0 (drop at line)
    ≡ Some (record { count = at + 2 - at; value = base * high + low; left = words_from (at + 2 + 1) line })
two_digits base at high low line most h high_digit l low_digit room inside space =
    let first : ℕ = digit_value (get_or line at 0) in
    let second : ℕ = digit_value (get_or line (at + 1) 0) in
    let n : ℕ = 0 * base + first in
    let a : first < base = omega arith in
    let b : second < base = omega arith in
    let is_first : n ≡ high = omega arith in
    let value : n * base + second ≡ base * high + low = ap (λ (x : ℕ). x * base + second) is_first ∙ ap (λ (x : ℕ). high * base + x) l
    ∙ ap (λ (x : ℕ). x + low) (mul_comm high base) in
    let fits : n * base + second < 18446744073709551616 = subst (λ (x : ℕ). x < 18446744073709551616) (sym value) room in
    let count : at + 2 - at ≡ 0 + 1 + 1 = omega arith in
    let next : at + 1 + 1 ≡ at + 2 = omega arith in
    let one = spelled-more base 0 0 at line (omega arith) (not_space base (get_or line at 0) most a) a (omega arith) in
    let two =
    spelled-more base (0 + 1) n (at + 1) line (omega arith) (not_space base (get_or line (at + 1) 0) most b) b fits in
    rw count (one ∙ two ∙ rw (value, next) (spelled-ended base (0 + 1 + 1) (base * high + low) (at + 2) line space))

-- one digit more stays below the next power of 16
pub more_digits : (base n k digit : ℕ) → base ≤ 16 → digit < base → n < 16 ^ k → n * base + digit < 16 ^ (k + 1)
more_digits base n k digit most small h =
    let next : 16 ^ (k + 1) ≡ 16 ^ k * 16 = pow_more 16 k in
    let product : n * base ≤ n * 16 = mul-le-mul_left n most in
    omega arith

-- 16 digits fit 64 bits
pub digits_fit : (k : ℕ) → k ≤ 16 → 16 ^ k ≤ 18446744073709551616
digits_fit k h = pow-le-pow_right {n = 16} (omega arith) {i = k} {j = 16} h

-- a decimal digit more, of the number at a place, of which so many were read
pub decimal_more : (at k n digit : ℕ) (line : List ℕ) → at + k < length line → k < 16 → digit_value (get_or line (at + k) 0) ≡ digit → digit < 10
    → n < 16 ^ k
    → (spelled 10 k n (drop (at + k) line) ≡ spelled 10 (k + 1) (n * 10 + digit) (drop (at + (k + 1)) line))
    × (n * 10 + digit < 16 ^ (k + 1))
decimal_more at k n digit line inside few same small h =
    let byte : ℕ = get_or line (at + k) 0 in
    let less : digit_value byte < 10 = omega arith in
    let below = more_digits 10 n k digit (omega arith) small h in
    let fits = digits_fit (k + 1) (omega arith) in
    let next : at + (k + 1) ≡ at + k + 1 = omega arith in
    let more = spelled-more 10 k n (at + k) line inside (not_space 10 byte (omega arith) less) less (omega arith) in
    (rw (next, ← same) more, below)
