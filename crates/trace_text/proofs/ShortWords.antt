-- Words of few digits.
use Rattle.std.proofs.Common.{◌≡◌, ℕ, ◌+◌, ◌-◌, ◌<◌, ◌≤◌, Bool, true, false, ◌&&◌, ltb, eqb, get_or, length, drop, List, Option, Some, refl, sym, ◌∙◌, ap, arith}
use Rattle.std.specs.Prelude.{option_and_then}
use Rattle.std.proofs.lemmas.Bool.{lt-ltb, le-ltb, ne_eqb}
use Rattle.trace_text.specs.Tokens.{first, rest, decimal_in, hex_in}
use Rattle.trace_text.specs.private.Spelled.{spelled, words_from, decimal_of, hex_of}
use Rattle.trace_text.proofs.FirstWord.{a_number}
use Rattle.trace_text.proofs.Tokens.{dec-is, hex-is}

-- a number of one digit is a decimal number, with or without a zero
one_is_decimal : (n d : ℕ) (zero : Bool) → d ≡ 1 → decimal_of (record { value = n; digits = d; zero = zero }) ≡ Some n
one_is_decimal n d true e = rw e refl
one_is_decimal n d false e = rw e refl

-- one of two digits is a hexadecimal number
two_are_hexadecimal : (most n d : ℕ) (zero : Bool) → d ≡ 2 → 2 ≤ most
    → hex_of most (record { value = n; digits = d; zero = zero }) ≡ Some n
two_are_hexadecimal most n d zero e h = rw (e, le-ltb most 2 h) refl

-- what is known of the words from a place of a line on is known of those that a reader sees there
seen_word : (token : List ℕ → Option ℕ) (at last next n : ℕ) (line : List ℕ) (ws : List (List ℕ)) → words_from at line ≡ ws → next ≡ last + 1
    → (first token (words_from at line) ≡ Some n) × (words_from (last + 1) line ≡ rest (words_from at line))
    → (first token ws ≡ Some n) × (words_from next line ≡ rest ws)
seen_word token at last next n line ws seen e there =
    (ap (first token) (sym seen) ∙ there.0, ap (λ (k : ℕ). words_from k line) e ∙ there.1 ∙ ap rest seen)

pub one_digit_word : (at next n : ℕ) (line : List ℕ) (ws : List (List ℕ)) → words_from at line ≡ ws → next ≡ at + 2 → at + 1 ≤ length line
    → spelled 10 0 0 (drop at line)
    ≡ Some (record { count = at + 1 - at; value = n; left = words_from (at + 1 + 1) line })
    → (first decimal_in ws ≡ Some n) × (words_from next line ≡ rest ws)
one_digit_word at next n line ws seen after h e =
    let there = a_number 10 at (at + 1) n line (omega arith) (omega arith) e in
    let count : at + 1 - at ≡ 1 = omega arith in
    seen_word decimal_in at (at + 1) next n line ws seen (omega arith) (
      dec-is (words_from at line)
          ∙ ap (option_and_then decimal_of) there.0
          ∙ one_is_decimal n (at + 1 - at) _ count,
      there.1,
    )

pub two_digits_word : (most at next n : ℕ) (line : List ℕ) (ws : List (List ℕ)) → words_from at line ≡ ws → next ≡ at + 3 → 2 ≤ most
    → at + 2 ≤ length line → spelled 16 0 0 (drop at line)
    ≡ Some (record { count = at + 2 - at; value = n; left = words_from (at + 2 + 1) line })
    → (first (hex_in most) ws ≡ Some n) × (words_from next line ≡ rest ws)
two_digits_word most at next n line ws seen after m h e =
    let there = a_number 16 at (at + 2) n line (omega arith) (omega arith) e in
    let count : at + 2 - at ≡ 2 = omega arith in
    seen_word (hex_in most) at (at + 2) next n line ws seen (omega arith) (
      hex-is most (words_from at line)
          ∙ ap (option_and_then (hex_of most)) there.0
          ∙ two_are_hexadecimal most n (at + 2 - at) (ltb at (at + 2) && eqb (get_or line at 0) 48) count m,
      there.1,
    )

-- a number that has digits is decimal where the first is no zero
no_zero_is_decimal : (n d : ℕ) (zero : Bool) → 0 < d → zero ≡ false → decimal_of (record { value = n; digits = d; zero = zero }) ≡ Some n
no_zero_is_decimal n d zero h e = rw (e, ne_eqb d 0 (λ none. omega arith)) refl

-- and hexadecimal where there are at most that many
few_are_hexadecimal : (most n d : ℕ) (zero : Bool) → 0 < d → d ≤ most → hex_of most (record { value = n; digits = d; zero = zero }) ≡ Some n
few_are_hexadecimal most n d zero h few = rw (ne_eqb d 0 (λ none. omega arith), le-ltb most d few) refl

pub decimal_word : (at last next n : ℕ) (line : List ℕ) (ws : List (List ℕ)) → words_from at line ≡ ws → next ≡ last + 1 → at < last
    → last ≤ length line → (get_or line at 0 ≡ 48 → ⊥)
    → spelled 10 0 0 (drop at line)
    ≡ Some (record { count = last - at; value = n; left = words_from (last + 1) line })
    → (first decimal_in ws ≡ Some n) × (words_from next line ≡ rest ws)
decimal_word at last next n line ws seen after less within other e =
    let there = a_number 10 at last n line (omega arith) (omega arith) e in
    let zero : ltb at last && eqb (get_or line at 0) 48 ≡ false = rw (lt-ltb at last less, ne_eqb (get_or line at 0) 48 other) refl in
    seen_word decimal_in at last next n line ws seen after (
      dec-is (words_from at line)
          ∙ ap (option_and_then decimal_of) there.0
          ∙ no_zero_is_decimal n (last - at) _ (omega arith) zero,
      there.1,
    )

pub hexadecimal_word : (at last next n : ℕ) (line : List ℕ) (ws : List (List ℕ)) → words_from at line ≡ ws → next ≡ last + 1 → at < last
    → last ≤ length line → last ≤ at + 16
    → spelled 16 0 0 (drop at line)
    ≡ Some (record { count = last - at; value = n; left = words_from (last + 1) line })
    → (first (hex_in 16) ws ≡ Some n) × (words_from next line ≡ rest ws)
hexadecimal_word at last next n line ws seen after less within few e =
    let there = a_number 16 at last n line (omega arith) (omega arith) e in
    seen_word (hex_in 16) at last next n line ws seen after (
      hex-is 16 (words_from at line)
          ∙ ap (option_and_then (hex_of 16)) there.0
          ∙ few_are_hexadecimal 16 n (last - at) (ltb at last && eqb (get_or line at 0) 48) (omega arith) (omega arith),
      there.1,
    )
