-- The first word of a line, up to its first space.
use Rattle.std.proofs.Common.{
  ◌≡◌,
  ◌≢◌,
  ℕ,
  zero,
  suc,
  ◌+◌,
  ◌<◌,
  ◌≤◌,
  length,
  take,
  drop,
  get_or,
  List,
  [],
  ◌∷◌,
  Option,
  Some,
  None,
  unwrap_or,
  refl,
  ap,
  sym,
  ◌∙◌,
  inl,
  inr,
  arith,
  length-drop,
  add-one,
  ◌-◌,
}
use Rattle.std.proofs.lemmas.Bool.{cases_lt, eq-eqb, ne_eqb, eqb-true}
use Rattle.std.proofs.lemmas.List.{drop-drop}
use Rattle.std.proofs.Math.Seq.{take-length}
use Rattle.memchr.specs.Find.{IsFirstByte, is_byte}
use Rattle.trace_text.specs.Tokens.{words_of}
use Rattle.trace_text.specs.private.Spelled.{words_from}
use Rattle.trace_text.proofs.Spells.{words_from-within, words_from-after}

-- a space is there, and none in front of it
words_of-space : (k : ℕ) (bytes : List ℕ) → k < length bytes → get_or bytes k 0 ≡ 32
    → ((i : ℕ) → i < k → get_or bytes i 0 ≢ 32) → words_of bytes ≡ take k bytes ∷ words_of (drop (suc k) bytes)
unfolding words_of
words_of-space k [] h here none = absurd (omega arith)
words_of-space zero (c ∷ cs) h here none = rw (eq-eqb c 32 here) refl
words_of-space (suc k) (c ∷ cs) h here none =
    let other : c ≢ 32 = none 0 (omega arith) in
    let rest = words_of-space k cs (omega arith) here (λ i below. none (suc i) (omega arith)) in
    rw (ne_eqb c 32 other, rest) refl

-- no space is there
words_of-none : (bytes : List ℕ) → ((i : ℕ) → i < length bytes → get_or bytes i 0 ≢ 32) → words_of bytes ≡ bytes ∷ []
unfolding words_of
words_of-none [] none = refl
words_of-none (c ∷ cs) none =
    let other : c ≢ 32 = none 0 (omega arith) in
    let rest = words_of-none cs (λ i below. none (suc i) (omega arith)) in
    rw (ne_eqb c 32 other, rest) refl

-- the first word up to where a search for a space stopped
pub first_cut : (left : List ℕ) (r : Option ℕ) → IsFirstByte (is_byte 32) left r
    → (unwrap_or r (length left) ≤ length left)
    × (words_of left ≡ take (unwrap_or r (length left)) left ∷ words_from (unwrap_or r (length left) + 1) left)
first_cut left None first = (
  omega arith,
  words_of-none left (λ i below e. first i (omega arith) below (eq-eqb (get_or left i 0) 32 e))
      ∙ rw (words_from-after (length left + 1) left (omega arith), take-length left) refl,
)
first_cut left (Some j) first =
    let inside : j < length left = first.0.high in
    let here : get_or left j 0 ≡ 32 = eqb-true (get_or left j 0) 32 first.1 in
    let cut =
    words_of-space j left inside here
    (λ i below e. first.0.before i (omega arith) below (eq-eqb (get_or left i 0) 32 e)) in
    let next : words_of (drop (suc j) left) ≡ words_from (j + 1) left =
    rw add-one (sym (words_from-within (suc j) left (omega arith))) in
    (omega arith, cut ∙ ap (λ (ws : List (List ℕ)). take j left ∷ ws) next)

-- words from a place of what is left
pub words_from-drop : (at k : ℕ) (line : List ℕ) → at ≤ length line → words_from k (drop at line) ≡ words_from (at + k) line
words_from-drop at k line h =
    let left : length (drop at line) ≡ length line - at = length-drop at line in
    elim (cases_lt (length line) (at + k)) [
      | inl past ↦
          words_from-after k (drop at line) (omega arith) ∙ sym (words_from-after (at + k) line past)
      | inr within ↦
          words_from-within k (drop at line) (omega arith)
          ∙ ap words_of (drop-drop k at line)
          ∙ sym (words_from-within (at + k) line within)
    ]

-- what is left of the line is the line from this place on
pub whole : (at : ℕ) (line : List ℕ) → take (length line - at) (drop at line) ≡ drop at line
whole at line = rw (← length-drop at line) (take-length (drop at line))

-- the word that a search for a space cuts off, and the words after it
pub word_cut : (at count : ℕ) (line left : List ℕ) (r : Option ℕ) → at ≤ length line
    → left ≡ take (length line - at) (drop at line) → IsFirstByte (is_byte 32) left r
    → count ≡ unwrap_or r (length left)
    → words_from at line ≡ take count left ∷ words_from (at + count + 1) line
word_cut at count line left r h is first found =
    let all : left ≡ drop at line = is ∙ whole at line in
    let cut = first_cut left r first in
    let place : at + (count + 1) ≡ at + count + 1 = omega arith in
    let behind : words_from (count + 1) left ≡ words_from (at + count + 1) line =
    ap (words_from (count + 1)) all ∙ words_from-drop at (count + 1) line h ∙ ap (λ (k : ℕ). words_from k line) place in
    words_from-within at line h
    ∙ ap words_of (sym all)
    ∙ cut.1
    ∙ rw (← found) (ap (λ (ws : List (List ℕ)). take count left ∷ ws) behind)
