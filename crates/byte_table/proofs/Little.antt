-- Numbers by their bytes.
use Rattle.std.proofs.Common.{◌≡◌, ℕ, zero, suc, ◌+◌, ◌<◌, ◌≤◌, List, [], ◌∷◌, ◌++◌, get_or, take, drop, replicate, refl, ◌∙◌, arith}
use Rattle.std.proofs.lemmas.List.{get_or-drop}
use Rattle.byteorder.specs.Endian.{little_from, little_number}
use Rattle.byteorder.specs.Numbers.{little_from-lt, little_from-take}
use Rattle.byte_table.specs.Codes.{number_at}
use Rattle.byte_table.proofs.FoldLaws.{AreBytes}

-- a number of four bytes has its range
pub number-below : (bytes : List ℕ) → AreBytes bytes → (p : ℕ) → number_at 4 p bytes < 4294967296
unfolding number_at
number-below bytes small p = little_from-lt 0 4 (drop p bytes) (λ k. rw get_or-drop (small (p + k)))

-- no byte after the eighth counts in a number of at most eight
pub little_whole : (xs : List ℕ) (n : ℕ) → n ≤ 8 → little_number n (take 8 xs) ≡ little_number n xs
little_whole xs n h = little_from-take 0 n 8 xs (omega arith)

zeros : (k i : ℕ) → get_or {A = ℕ} (replicate k 0) i 0 ≡ 0
zeros zero i = refl
zeros (suc k) zero = refl
zeros (suc k) (suc i) = zeros k i

zeros_after : (xs : List ℕ) (k i : ℕ) → get_or (xs ++ drop k (replicate 8 0)) i 0 ≡ get_or xs i 0
zeros_after [] k i = get_or-drop k (replicate 8 0) i 0 ∙ zeros 8 (k + i)
zeros_after (x ∷ xs) k zero = refl
zeros_after (x ∷ xs) k (suc i) = zeros_after xs k i

little_from-short : (i n k : ℕ) (xs : List ℕ) → little_from i n (xs ++ drop k (replicate 8 0)) ≡ little_from i n xs
little_from-short i zero k xs = refl
little_from-short i (suc n) k xs = rw (zeros_after xs k i, little_from-short (suc i) n k xs) refl

-- a byte after the end counts as 0
pub little_short : (xs : List ℕ) (k n : ℕ) → little_number n (xs ++ drop k (0 ∷ 0 ∷ 0 ∷ 0 ∷ 0 ∷ 0 ∷ 0 ∷ 0 ∷ [])) ≡ little_number n xs
little_short xs k n = little_from-short 0 n k xs
