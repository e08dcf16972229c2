-- Laws of cutting lines off a piece.
use Rattle.std.proofs.Common.{
  ◌≡◌,
  ◌≢◌,
  ℕ,
  zero,
  suc,
  ◌+◌,
  ◌-◌,
  ◌<◌,
  ◌≤◌,
  List,
  [],
  ◌∷◌,
  ◌++◌,
  length,
  take,
  drop,
  slice_index,
  Option,
  Some,
  None,
  unwrap_or,
  sym,
  ap,
  ◌∙◌,
  arith,
  subst,
  refl,
  Bool,
  true,
  false,
  length-take,
}
use Rattle.std.proofs.lemmas.Bool.{eq-eqb, eqb-true}
use Rattle.std.proofs.lemmas.List.{drop-take, drop-drop, take-take}
use Rattle.std.specs.Str.{bytes_eq}
use Rattle.std.proofs.lemmas.Slice.Eq.{bytes_eq-Decides}
use Rattle.memchr.specs.Find.{IsFirstByte, is_byte}
use Rattle.trace_loop.specs.Cut.{HasNoEnd}

-- bytes of which none is the end of a line
no_end : (bs : List ℕ) (n : ℕ) → ((k : ℕ) → k < n → k < length bs → slice_index bs k ≢ 10) → HasNoEnd (take n bs)
no_end [] zero none = tt
no_end [] (suc n) none = tt
no_end (b ∷ bs) zero none = tt
no_end (b ∷ bs) (suc n) none = (none 0 (omega arith) (omega arith), no_end bs n (λ k low high. none (suc k) (omega arith) (omega arith)))

-- up to where the search stopped there is none
pub no_end_found : (rest : List ℕ) (end : Option ℕ) (n : ℕ) → IsFirstByte (is_byte 10) rest end → n ≤ unwrap_or end (length rest) → HasNoEnd (take n rest)
no_end_found rest None n first low = no_end rest n (λ k below inside e. first k (omega arith) inside (eq-eqb (slice_index rest k) 10 e))
no_end_found rest (Some j) n first low = no_end rest n (λ k below inside e. first.0.before k (omega arith) (omega arith) (eq-eqb (slice_index rest k) 10 e))

pub found_within : (rest : List ℕ) (end : Option ℕ) → IsFirstByte (is_byte 10) rest end → unwrap_or end (length rest) ≤ length rest
found_within rest None first = omega arith
found_within rest (Some j) first = let h = first.0.high in omega arith

-- what is left of a part after n of its bytes
pub drop_part : (piece left : List ℕ) (from to n : ℕ) → from ≤ to → take (to - from) (drop from piece) ≡ left → n ≤ length left
    → take (to - (from + n)) (drop (from + n) piece) ≡ drop n left
drop_part piece left from to n low is there =
    let within : from + n ≤ to = omega (arith, length-take (to - from) (drop from piece), ap length is) in
    let parts : n + (to - (from + n)) ≡ to - from = omega arith in
    ap (take (to - (from + n))) (sym (drop-drop n from piece)) ∙ sym (drop-take n (to - (from + n)) (drop from piece))
    ∙ ap (λ (m : ℕ). drop n (take m (drop from piece))) parts ∙ ap (drop n) is

-- the first n bytes of it
pub take_part : (piece left : List ℕ) (from to n : ℕ) → take (to - from) (drop from piece) ≡ left → n ≤ length left
    → take (from + n - from) (drop from piece) ≡ take n left
take_part piece left from to n is there =
    let within : n ≤ to - from = omega (arith, length-take (to - from) (drop from piece), ap length is) in
    let long : from + n - from ≡ n = omega arith in
    ap (λ (m : ℕ). take m (drop from piece)) long ∙ sym (take-take n (to - from) (drop from piece) within) ∙ ap (take n) is

-- where the search stopped at a byte, it is the end
pub found_at : (rest : List ℕ) (end : Option ℕ) (n : ℕ) → IsFirstByte (is_byte 10) rest end → end ≡ Some n → (n < length rest) × (slice_index rest n ≡ 10)
found_at rest None n first is = cc
found_at rest (Some j) n first is =
    let same : j ≡ n = cc in
    let h = first.0.high in
    (omega arith, subst (λ (k : ℕ). slice_index rest k ≡ 10) same (eqb-true (slice_index rest j) 10 first.1))

-- bytes without an end, one part after the other
pub no_end_++ : (xs ys : List ℕ) → HasNoEnd xs → HasNoEnd ys → HasNoEnd (xs ++ ys)
no_end_++ [] ys p q = q
no_end_++ (x ∷ xs) ys p q = (p.0, no_end_++ xs ys p.1 q)

-- a line of which an earlier piece had the front begins with a word
pub across : (word kept rest : List ℕ) → length kept ≤ length word → take (length kept) word ≡ kept → take (length (drop (length kept) word)) rest
    ≡ drop (length kept) word → take (length word) (kept ++ rest) ≡ word
across word [] rest short first second = second
across [] (k ∷ ks) rest short first second = absurd (omega arith)
across (w ∷ ws) (k ∷ ks) rest short first second =
    let head : w ≡ k = cc in
    let tail : take (length ks) ws ≡ ks = cc in
    let later : take (length ws) (ks ++ rest) ≡ ws = across ws ks rest (omega arith) tail second in
    ap (λ (l : List ℕ). k ∷ l) later ∙ ap (λ (b : ℕ). b ∷ ws) (sym head)

pub across_back : (word kept rest : List ℕ) → length kept ≤ length word → take (length word) (kept ++ rest) ≡ word
    → (take (length kept) word ≡ kept) × (take (length (drop (length kept) word)) rest ≡ drop (length kept) word)
across_back word [] rest short all = (refl, all)
across_back [] (k ∷ ks) rest short all = absurd (omega arith)
across_back (w ∷ ws) (k ∷ ks) rest short all =
    let head : k ≡ w = cc in
    let tail : take (length ws) (ks ++ rest) ≡ ws = cc in
    let h = across_back ws ks rest (omega arith) tail in
    (ap (λ (l : List ℕ). w ∷ l) h.0 ∙ ap (λ (b : ℕ). b ∷ ks) (sym head), h.1)

same_bool : (a b : Bool) → (a ≡ true → b ≡ true) → (b ≡ true → a ≡ true) → a ≡ b
same_bool true b p q = sym (p refl)
same_bool false true p q = q refl
same_bool false false p q = refl

-- the same as tests
pub across_test : (word kept rest : List ℕ) → length kept ≤ length word → bytes_eq (take (length kept) word) kept ≡ true
    → bytes_eq (take (length (drop (length kept) word)) rest) (drop (length kept) word) ≡ bytes_eq (take (length word) (kept ++ rest)) word
across_test word kept rest short first =
    let is : take (length kept) word ≡ kept = (bytes_eq-Decides (take (length kept) word) kept).0 first in
    let d = bytes_eq-Decides (take (length (drop (length kept) word)) rest) (drop (length kept) word) in
    let e = bytes_eq-Decides (take (length word) (kept ++ rest)) word in
    same_bool (bytes_eq (take (length (drop (length kept) word)) rest) (drop (length kept) word)) (bytes_eq (take (length word) (kept ++ rest)) word)
    (λ yes. e.1 (across word kept rest short is (d.0 yes))) (λ yes. d.1 (across_back word kept rest short (e.0 yes)).1)

pub across_none : (word kept rest : List ℕ) → length kept ≤ length word → bytes_eq (take (length kept) word) kept ≡ false → false
    ≡ bytes_eq (take (length word) (kept ++ rest)) word
across_none word kept rest short first =
    let d = bytes_eq-Decides (take (length kept) word) kept in
    let e = bytes_eq-Decides (take (length word) (kept ++ rest)) word in
    same_bool false (bytes_eq (take (length word) (kept ++ rest)) word) (λ yes. cc)
    (λ yes. absurd (let h : bytes_eq (take (length kept) word) kept ≡ true = d.1 (across_back word kept rest short (e.0 yes)).0 in cc))
