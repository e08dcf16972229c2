-- The first word of a line, by its bytes: what number it spells, and which word it is.
use Rattle.std.proofs.Common.{
  ◌≡◌,
  ◌≢◌,
  ℕ,
  ◌+◌,
  ◌-◌,
  ◌<◌,
  ◌≤◌,
  Bool,
  true,
  false,
  not,
  ◌&&◌,
  cond,
  eqb,
  ltb,
  length,
  drop,
  get_or,
  List,
  [],
  ◌∷◌,
  Option,
  Some,
  None,
  refl,
  sym,
  ◌∙◌,
  ap,
  IsTrue,
  arith,
  inl,
  inr,
  add-zero,
}
use Rattle.std.specs.List.{slice_split, onto_first, list_all}
use Rattle.std.specs.Option.{option_map}
use Rattle.std.specs.Str.{bytes_eq}
use Rattle.std.proofs.lemmas.Bool.{cases_lt, cases_eq, lt-ltb, le-ltb, eq-eqb, ne_eqb}
use Rattle.std.proofs.lemmas.List.{get_or-drop}
use Rattle.std.proofs.Math.ListN.{drop_of_length-le}
use Rattle.trace_text.specs.Tokens.{words_of, rest, first, starts}
use Rattle.trace_text.specs.private.Spelled.{Spelled, spelled, after_word, words_from, number_of}
use Rattle.trace_text.specs.private.Groups.{IsInitial}
use Rattle.trace_text.specs.declared.bytes.Number.{Number}
use Rattle.trace_text.proofs.Numbers.{with_digit, may_read, number_after, number_in-is}
use Rattle.trace_text.proofs.Spells.{words_from-within, words_from-after}

-- the first of some words
abbrev pub first_word : List (List ℕ) → List ℕ
first_word [] = []
first_word (w ∷ ws) = w

-- a line has a first word
pub words_of-cons : (bytes : List ℕ) → words_of bytes ≡ first_word (words_of bytes) ∷ rest (words_of bytes)
unfolding words_of
words_of-cons [] = refl
words_of-cons (c ∷ cs) = by_space (eqb c 32) (slice_split (λ b. eqb b 32) cs)
  where
    onto : (ws : List (List ℕ)) → onto_first c ws ≡ first_word (onto_first c ws) ∷ rest (onto_first c ws)
    onto [] = refl
    onto (w ∷ ws) = refl

    by_space : (space : Bool) (ws : List (List ℕ)) → cond space ([] ∷ ws) (onto_first c ws)
        ≡ first_word (cond space ([] ∷ ws) (onto_first c ws)) ∷ rest (cond space ([] ∷ ws) (onto_first c ws))
    by_space true ws = refl
    by_space false ws = onto ws

-- that many digits spelled a number, and words are left
abbrev spelt : ℕ → List (List ℕ) → ℕ → Spelled
spelt count left m = record { count = count; value = m; left = left }

-- what the first word spells after `count` digits that spelled n, and the words after it
abbrev pub answer : ℕ → ℕ → ℕ → List (List ℕ) → Option Spelled
answer base count n ws =
    option_map (spelt (count + length (first_word ws)) (rest ws)) (number_after base n (first_word ws))

-- a digit in front of it
answer-onto : (base count n c : ℕ) (ws : List (List ℕ)) → answer base count n (onto_first c ws)
    ≡ cond (may_read base n c) (answer base (count + 1) (with_digit base n c) ws) None
answer-onto base count n c ws = by_words ws
  where
    by_test : (t : Bool) (o : Option ℕ) (k j : ℕ) (left : List (List ℕ)) → k ≡ j
        → option_map (spelt k left) (cond t o None) ≡ cond t (option_map (spelt j left) o) None
    by_test true o k j left e = ap (λ (i : ℕ). option_map (spelt i left) o) e
    by_test false o k j left e = refl

    by_words : (ws : List (List ℕ)) → answer base count n (onto_first c ws)
        ≡ cond (may_read base n c) (answer base (count + 1) (with_digit base n c) ws) None
    by_words [] =
        by_test (may_read base n c) (number_after base (with_digit base n c) [])
        (count + length (c ∷ [])) (count + 1 + 0) [] (omega arith)
    by_words (w ∷ ws) =
        by_test (may_read base n c) (number_after base (with_digit base n c) w)
        (count + length (c ∷ w)) (count + 1 + length w) ws (omega arith)

-- byte by byte as by words
pub spelled-is : (base count n : ℕ) (bytes : List ℕ)
    → spelled base count n bytes ≡ answer base count n (words_of bytes)
unfolding spelled words_of
spelled-is base count n [] =
    let none : count ≡ count + 0 = omega arith in
    ap (λ (k : ℕ). Some (spelt k [] n)) none
spelled-is base count n (c ∷ cs) =
    by_space (eqb c 32) (spelled-is base (count + 1) (with_digit base n c) cs)
  where
    by_space : (space : Bool)
        → spelled base (count + 1) (with_digit base n c) cs
        ≡ answer base (count + 1) (with_digit base n c) (slice_split (λ b. eqb b 32) cs)
        → cond space (Some (spelt count (words_of cs) n))
        (cond (may_read base n c) (spelled base (count + 1) (with_digit base n c) cs) None)
        ≡ answer base count n
        (cond space ([] ∷ slice_split (λ b. eqb b 32) cs) (onto_first c (slice_split (λ b. eqb b 32) cs)))
    by_space true e =
        let none : count ≡ count + 0 = omega arith in
        ap (λ (k : ℕ). Some (spelt k (words_of cs) n)) none
    by_space false e =
        ap (λ (o : Option Spelled). cond (may_read base n c) o None) e
        ∙ sym (answer-onto base count n c (slice_split (λ b. eqb b 32) cs))

-- the first byte of a word that has one
first_word-head : (bytes : List ℕ) → 0 < length (first_word (words_of bytes)) → get_or (first_word (words_of bytes)) 0 0 ≡ get_or bytes 0 0
unfolding words_of
first_word-head [] h = absurd (omega arith)
first_word-head (c ∷ cs) h = by_space (eqb c 32) (slice_split (λ b. eqb b 32) cs) h
  where
    by_space : (space : Bool) (ws : List (List ℕ)) → 0 < length (first_word (cond space ([] ∷ ws) (onto_first c ws)))
        → get_or (first_word (cond space ([] ∷ ws) (onto_first c ws))) 0 0 ≡ c
    by_space true ws h = absurd (omega arith)
    by_space false [] h = refl
    by_space false (w ∷ ws) h = refl

-- a line from a place on
pub from_place : (at : ℕ) (line : List ℕ) → at ≤ length line → words_from at line ≡ first_word (words_of (drop at line)) ∷ rest (words_of (drop at line))
from_place at line h = words_from-within at line h ∙ words_of-cons (drop at line)

-- a token of the first word there
pub first-from : {A : Type 0} (token : List ℕ → Option A) (at : ℕ) (line : List ℕ) → at ≤ length line
    → first token (words_from at line) ≡ token (first_word (words_of (drop at line)))
first-from token at line h = ap (first token) (from_place at line h)

pub rest-from : (at : ℕ) (line : List ℕ) → at ≤ length line → rest (words_from at line) ≡ rest (words_of (drop at line))
rest-from at line h = ap rest (words_from-within at line h)

-- the parts of an answer
none-answer : (base count n : ℕ) (ws : List (List ℕ)) → answer base count n ws ≡ None → number_after base n (first_word ws) ≡ None
none-answer base count n ws h = by_number (number_after base n (first_word ws)) h
  where
    by_number : (o : Option ℕ) → option_map (spelt (count + length (first_word ws)) (rest ws)) o ≡ None
        → o ≡ None
    by_number None e = refl
    by_number (Some m) e = cc

some-answer : (base count n : ℕ) (ws : List (List ℕ)) (s : Spelled) → answer base count n ws ≡ Some s
    → (number_after base n (first_word ws) ≡ Some s.value) × (count + length (first_word ws) ≡ s.count) × (rest ws ≡ s.left)
some-answer base count n ws s h = by_number (number_after base n (first_word ws)) h
  where
    by_number : (o : Option ℕ) → option_map (spelt (count + length (first_word ws)) (rest ws)) o ≡ Some s
        → (o ≡ Some s.value) × (count + length (first_word ws) ≡ s.count) × (rest ws ≡ s.left)
    by_number None e = (cc, cc, cc)
    by_number (Some m) e =
        let same : spelt (count + length (first_word ws)) (rest ws) m ≡ s = cc in (
          ap (λ (t : Spelled). Some t.value) same,
          ap (λ (t : Spelled). t.count) same,
          ap (λ (t : Spelled). t.left) same,
        )

-- what a word that spells a number is
shape : List ℕ → ℕ → Number
shape w n = record { value = n; digits = length w; zero = eqb (get_or w 0 0) 48 }

-- no number is there
pub no_number : (base at : ℕ) (line : List ℕ) → 0 < base → at ≤ length line
    → spelled base 0 0 (drop at line) ≡ None → first (number_of base) (words_from at line) ≡ None
unfolding number_of shape
no_number base at line b h e =
    let ws : List (List ℕ) = words_of (drop at line) in
    let none = none-answer base 0 0 ws (sym (spelled-is base 0 0 (drop at line)) ∙ e) in
    first-from (number_of base) at line h
    ∙ ap (option_map (shape (first_word ws))) (number_in-is base (first_word ws) b ∙ none)

-- whether its first byte is a zero
zero_first : (at last : ℕ) (line : List ℕ) → length (first_word (words_of (drop at line))) ≡ last - at
    → eqb (get_or (first_word (words_of (drop at line))) 0 0) 48 ≡ (ltb at last && eqb (get_or line at 0) 48)
zero_first at last line long = elim (cases_lt at last) [
  | inl less ↦
      let some : 0 < length (first_word (words_of (drop at line))) = omega arith in
      rw (lt-ltb at last less, first_word-head (drop at line) some, get_or-drop at line 0 0, add-zero) refl
  | inr ge ↦ rw (le-ltb at last ge) (nothing (first_word (words_of (drop at line))) (omega arith))
]
  where
    nothing : (w : List ℕ) → length w ≡ 0 → eqb (get_or w 0 0) 48 ≡ false
    nothing [] e = refl
    nothing (c ∷ cs) e = absurd (omega arith)

-- a number is there
pub a_number : (base at last value : ℕ) (line : List ℕ) → 0 < base → at ≤ length line
    → spelled base 0 0 (drop at line) ≡ Some (spelt (last - at) (words_from (last + 1) line) value)
    → (first (number_of base) (words_from at line)
    ≡ Some (record { value = value; digits = last - at; zero = ltb at last && eqb (get_or line at 0) 48 }))
    × (words_from (last + 1) line ≡ rest (words_from at line))
unfolding number_of shape
a_number base at last value line b h e =
    let w : List ℕ = first_word (words_of (drop at line)) in
    let parts =
    some-answer base 0 0 (words_of (drop at line)) (spelt (last - at) (words_from (last + 1) line) value)
    (sym (spelled-is base 0 0 (drop at line)) ∙ e) in
    let long : length (first_word (words_of (drop at line))) ≡ last - at = omega (arith, parts.1) in
    let number = ap (option_map (shape w)) (number_in-is base w b ∙ parts.0) in
    let zero = zero_first at last line long in (
      first-from (number_of base) at line h ∙ number ∙ rw (long, zero) refl,
      sym parts.2 ∙ sym (rest-from at line h),
    )

-- words after a byte
abbrev joined : ℕ → List (List ℕ) → List (List ℕ)
joined c ws = cond (eqb c 32) ([] ∷ ws) (onto_first c ws)

-- a test of each letter, by the first and by the others
pub letters : (t r : Bool) → IsTrue (not t && r) → (t ≡ false) × IsTrue r
letters false r h = (refl, h)
letters true r h = (cc, cc)

-- whether it is a word
pub after_word-is : (name bytes : List ℕ) → IsTrue (list_all (λ b. not (eqb b 32)) name)
    → after_word name bytes ≡ cond (bytes_eq (first_word (words_of bytes)) name) (Some (rest (words_of bytes))) None
unfolding after_word words_of
after_word-is [] [] h = refl
after_word-is [] (c ∷ cs) h = by_space (eqb c 32) (slice_split (λ b. eqb b 32) cs)
  where
    by_space : (space : Bool) (ws : List (List ℕ)) → cond space (Some ws) None
        ≡ cond (bytes_eq (first_word (cond space ([] ∷ ws) (onto_first c ws))) []) (Some (rest (cond space ([] ∷ ws) (onto_first c ws)))) None
    by_space true ws = refl
    by_space false [] = refl
    by_space false (w ∷ ws) = refl
after_word-is (b ∷ bs) [] h = refl
after_word-is (b ∷ bs) (c ∷ cs) h =
    let parts = letters (eqb b 32) (list_all (λ b. not (eqb b 32)) bs) h in
    elim (cases_eq c b) [
      | inl same ↦ the_byte same parts.0 (after_word-is bs cs parts.1)
      | inr other ↦ another (eqb c 32) (slice_split (λ b. eqb b 32) cs) (ne_eqb c b other)
    ]
  where
    onto_eq : (ws : List (List ℕ)) → bytes_eq (first_word (onto_first c ws)) (b ∷ bs) ≡ (eqb c b && bytes_eq (first_word ws) bs)
    onto_eq [] = refl
    onto_eq (w ∷ ws) = refl

    onto_rest : (ws : List (List ℕ)) → rest (onto_first c ws) ≡ rest ws
    onto_rest [] = refl
    onto_rest (w ∷ ws) = refl

    another : (space : Bool) (ws : List (List ℕ)) → eqb c b ≡ false → cond (eqb c b) (after_word bs cs) None
        ≡ cond (bytes_eq (first_word (cond space ([] ∷ ws) (onto_first c ws))) (b ∷ bs)) (Some (rest (cond space ([] ∷ ws) (onto_first c ws)))) None
    another true ws e = rw e refl
    another false ws e = rw (onto_eq ws, e) refl

    the_byte : c ≡ b → eqb b 32 ≡ false
        → after_word bs cs ≡ cond (bytes_eq (first_word (words_of cs)) bs) (Some (rest (words_of cs))) None
        → cond (eqb c b) (after_word bs cs) None
        ≡ cond (bytes_eq (first_word (joined c (words_of cs))) (b ∷ bs)) (Some (rest (joined c (words_of cs)))) None
    the_byte same no_space e =
        let here : eqb c 32 ≡ false = ap (λ (x : ℕ). eqb x 32) same ∙ no_space in
        rw (here, onto_eq (words_of cs), onto_rest (words_of cs), eq-eqb c b same) e

-- a word that is there, and one that isn't
pub a_word : (name : List ℕ) (at : ℕ) (line : List ℕ) (ws : List (List ℕ)) → IsTrue (list_all (λ b. not (eqb b 32)) name) → at ≤ length line
    → after_word name (drop at line) ≡ Some ws → (starts name (words_from at line) ≡ true) × (ws ≡ rest (words_from at line))
a_word name at line ws plain h e =
    let shown = by_test (bytes_eq (first_word (words_of (drop at line))) name) (sym (after_word-is name (drop at line) plain) ∙ e) in
    (ap (starts name) (from_place at line h) ∙ shown.0, shown.1 ∙ sym (rest-from at line h))
  where
    by_test : (t : Bool) → cond t (Some (rest (words_of (drop at line)))) None ≡ Some ws → (t ≡ true) × (ws ≡ rest (words_of (drop at line)))
    by_test true e = (refl, cc)
    by_test false e = (cc, cc)

pub no_word : (name : List ℕ) (at : ℕ) (line : List ℕ) → IsTrue (list_all (λ b. not (eqb b 32)) name) → at ≤ length line
    → after_word name (drop at line) ≡ None → starts name (words_from at line) ≡ false
no_word name at line plain h e =
    ap (starts name) (from_place at line h)
    ∙ by_test (bytes_eq (first_word (words_of (drop at line))) name) (sym (after_word-is name (drop at line) plain) ∙ e)
  where
    by_test : (t : Bool) → cond t (Some (rest (words_of (drop at line)))) None ≡ None → t ≡ false
    by_test true e = cc
    by_test false e = refl

-- a word that begins with another byte
other_word : (n : ℕ) (ns bytes : List ℕ) → n ≢ get_or bytes 0 0 → bytes_eq (first_word (words_of bytes)) (n ∷ ns) ≡ false
other_word n ns bytes other = by_word (first_word (words_of bytes)) (first_word-head bytes)
  where
    by_word : (w : List ℕ) → (0 < length w → get_or w 0 0 ≡ get_or bytes 0 0) → bytes_eq w (n ∷ ns) ≡ false
    by_word [] h = refl
    by_word (c ∷ cs) h =
        let same : c ≡ get_or bytes 0 0 = h (omega arith) in
        rw (ne_eqb c n (λ e. other (sym e ∙ same))) refl

-- the first byte that is there, or none
pub initial-there : (at : ℕ) (line : List ℕ) → at < length line → IsInitial (get_or line at 0) (words_from at line)
initial-there at line h = λ n ns other.
    let within : at ≤ length line = omega arith in
    let here : get_or (drop at line) 0 0 ≡ get_or line at 0 = rw (get_or-drop at line 0 0, add-zero) refl in
    ap (starts (n ∷ ns)) (from_place at line within) ∙ other_word n ns (drop at line) (λ e. other (e ∙ here))

pub initial-none : (at : ℕ) (line : List ℕ) → length line ≤ at → IsInitial 0 (words_from at line)
initial-none at line h = λ n ns other. elim (cases_lt (length line) at) [
  | inl past ↦ ap (starts (n ∷ ns)) (words_from-after at line past)
  | inr within ↦
      let none : drop at line ≡ [] = drop_of_length-le line h in
      ap (starts (n ∷ ns)) (from_place at line within) ∙ other_word n ns (drop at line) (rw none other)
]
