-- The first bytes of a record, as one word.
use Rattle.std.proofs.Common.{◌≡◌, ℕ, ◌+◌, ◌-◌, ◌*◌, ◌%◌, ◌<◌, ◌≤◌, List, [], ◌∷◌, ◌++◌, codes, length, take, drop, get_or, sym, ap, ◌∙◌, arith}
use Rattle.std.proofs.lemmas.List.{take_all, length-drop}
use lib.Lanes.{number_l}

-- the bytes of a list are below 256
abbrev pub AreBytes : List ℕ → Type 0
AreBytes xs = (j : ℕ) → get_or xs j 0 < 256

-- all that is left after some bytes
pub all_left : (n : ℕ) (xs : List ℕ) → n ≤ length xs → take (length xs - n) (drop n xs) ≡ drop n xs
all_left n xs h = take_all (length xs - n) (drop n xs) (omega (arith, length-drop n xs))

-- the four bytes of a word
four : (xs : List ℕ) (a b c d : ℕ) → AreBytes xs → 4 ≤ length xs → a < 256 → b < 256 → c < 256 → d < 256
    → number_l 256 (take 4 xs) % 4294967296 ≡ a + 256 * (b + 256 * (c + 256 * d)) → xs ≡ a ∷ b ∷ c ∷ d ∷ drop 4 xs
four [] a b c d fit long A B C D e = absurd (omega arith)
four (p ∷ []) a b c d fit long A B C D e = absurd (omega arith)
four (p ∷ q ∷ []) a b c d fit long A B C D e = absurd (omega arith)
four (p ∷ q ∷ r ∷ []) a b c d fit long A B C D e = absurd (omega arith)
four (p ∷ q ∷ r ∷ s ∷ xs) a b c d fit long A B C D e =
    let fp : p < 256 = fit 0 in
    let fq : q < 256 = fit 1 in
    let fr : r < 256 = fit 2 in
    let fs : s < 256 = fit 3 in
    let ep : p ≡ a = omega arith in
    let eq : q ≡ b = omega arith in
    let er : r ≡ c = omega arith in
    let es : s ≡ d = omega arith in
    λ i. ep i ∷ eq i ∷ er i ∷ es i ∷ xs

-- and the lower three of them
three : (xs : List ℕ) (a b c : ℕ) → AreBytes xs → 4 ≤ length xs → a < 256 → b < 256 → c < 256
    → number_l 256 (take 4 xs) % 4294967296 % 16777216 ≡ a + 256 * (b + 256 * c) → xs ≡ a ∷ b ∷ c ∷ drop 3 xs
three [] a b c fit long A B C e = absurd (omega arith)
three (p ∷ []) a b c fit long A B C e = absurd (omega arith)
three (p ∷ q ∷ []) a b c fit long A B C e = absurd (omega arith)
three (p ∷ q ∷ r ∷ []) a b c fit long A B C e = absurd (omega arith)
three (p ∷ q ∷ r ∷ s ∷ xs) a b c fit long A B C e =
    let fp : p < 256 = fit 0 in
    let fq : q < 256 = fit 1 in
    let fr : r < 256 = fit 2 in
    let fs : s < 256 = fit 3 in
    let ep : p ≡ a = omega arith in
    let eq : q ≡ b = omega arith in
    let er : r ≡ c = omega arith in
    λ i. ep i ∷ eq i ∷ er i ∷ s ∷ xs

pub in_prefix : (xs : List ℕ) → AreBytes xs → 4 ≤ length xs → number_l 256 (take 4 xs) % 4294967296 % 16777216 ≡ 2125417 → xs ≡ codes "in " ++ drop 3 xs
in_prefix xs fit long e = three xs 105 110 32 fit long (omega arith) (omega arith) (omega arith) e

pub step_prefix : (xs : List ℕ) → AreBytes xs → 4 ≤ length xs → number_l 256 (take 4 xs) % 4294967296 ≡ 1885697139 → xs ≡ codes "step" ++ drop 4 xs
step_prefix xs fit long e = four xs 115 116 101 112 fit long (omega arith) (omega arith) (omega arith) (omega arith) e

pub counter_prefix : (xs : List ℕ) → AreBytes xs → 4 ≤ length xs → number_l 256 (take 4 xs) % 4294967296 ≡ 1713402472 → xs ≡ codes "hr f" ++ drop 4 xs
counter_prefix xs fit long e = four xs 104 114 32 102 fit long (omega arith) (omega arith) (omega arith) (omega arith) e

pub ack_prefix : (xs : List ℕ) → AreBytes xs → 4 ≤ length xs → number_l 256 (take 4 xs) % 4294967296 ≡ 543908705 → xs ≡ codes "ack " ++ drop 4 xs
ack_prefix xs fit long e = four xs 97 99 107 32 fit long (omega arith) (omega arith) (omega arith) (omega arith) e

pub out_prefix : (xs : List ℕ) → AreBytes xs → 4 ≤ length xs → number_l 256 (take 4 xs) % 4294967296 ≡ 544503151 → xs ≡ codes "out " ++ drop 4 xs
out_prefix xs fit long e = four xs 111 117 116 32 fit long (omega arith) (omega arith) (omega arith) (omega arith) e

pub clock_prefix : (xs more : List ℕ) → AreBytes xs → 4 ≤ length xs → number_l 256 (take 4 xs) % 4294967296 ≡ 1668246627 → drop 4 xs ≡ codes "k " ++ more
    → xs ≡ codes "clock " ++ more
clock_prefix xs more fit long e rest =
    four xs 99 108 111 99 fit long (omega arith) (omega arith) (omega arith) (omega arith) e
    ∙ ap (λ (l : List ℕ). 99 ∷ 108 ∷ 111 ∷ 99 ∷ l) rest

pub refresh_prefix : (xs more : List ℕ) → AreBytes xs → 4 ≤ length xs → number_l 256 (take 4 xs) % 4294967296 ≡ 1919313266 → drop 4 xs ≡ codes "esh " ++ more
    → xs ≡ codes "refresh " ++ more
refresh_prefix xs more fit long e rest =
    four xs 114 101 102 114 fit long (omega arith) (omega arith) (omega arith) (omega arith) e
    ∙ ap (λ (l : List ℕ). 114 ∷ 101 ∷ 102 ∷ 114 ∷ l) rest

pub hr_prefix : (xs : List ℕ) → AreBytes xs → 4 ≤ length xs → number_l 256 (take 4 xs) % 4294967296 % 16777216 ≡ 2126440 → xs ≡ codes "hr " ++ drop 3 xs
hr_prefix xs fit long e = three xs 104 114 32 fit long (omega arith) (omega arith) (omega arith) e

pub hw_prefix : (xs : List ℕ) → AreBytes xs → 4 ≤ length xs → number_l 256 (take 4 xs) % 4294967296 % 16777216 ≡ 2127720 → xs ≡ codes "hw " ++ drop 3 xs
hw_prefix xs fit long e = three xs 104 119 32 fit long (omega arith) (omega arith) (omega arith) e

-- the same, as a slice is written
pub sliced : (n : ℕ) (name xs : List ℕ) → n ≤ length xs → xs ≡ name ++ drop n xs → xs ≡ name ++ take (length xs - n) (drop n xs)
sliced n name xs h e = e ∙ ap (λ (l : List ℕ). name ++ l) (sym (all_left n xs h))
