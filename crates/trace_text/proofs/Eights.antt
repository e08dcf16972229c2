-- Decimal digits that are read eight bytes at a time, as one word.
use Rattle.std.proofs.Common.{
  ◌≡◌,
  ℕ,
  zero,
  suc,
  ◌+◌,
  ◌-◌,
  ◌*◌,
  ◌/◌,
  ◌%◌,
  ◌^◌,
  ◌<◌,
  ◌≤◌,
  min,
  max,
  length,
  take,
  drop,
  get_or,
  List,
  [],
  ◌∷◌,
  Some,
  w64,
  refl,
  sym,
  ap,
  ◌∙◌,
  arith,
}
use Rattle.std.specs.Char.{digit_value}
use Rattle.std.specs.Int.{IsInRange, bit_at, trailing_zeros}
use Rattle.std.specs.Int.RustNames.{bit_and, bit_or}
use Rattle.std.specs.Int.Digits.{number_from_digits, number_from_digits_after, AllBelowBase}
use Rattle.std.proofs.lemmas.Int.Digits.{number_lt}
use Rattle.std.proofs.lemmas.List.{drop_more}
use Rattle.std.proofs.lemmas.Nat.{and_block, and_mask, and_le_r, mod-mul-add, div-mul-add, mul-le}
use Rattle.std.proofs.Math.Nat.{mul_assoc, one-le-pow, le-mul_of_pos_right, pow-le-pow_right}
use Rattle.std.proofs.lemmas.Nat.Bits.{bit_at_and, bit_at_or, bit_at-zero, bit_at_cat_high, bit_at-trailing_zeros}
use Rattle.std.proofs.lemmas.Grind.{pow_more}
use Rattle.std.proofs.lemmas.Str.{digit_value_digit}
use lib.Lanes.{number_l}
use Rattle.trace_text.proofs.Spells.{spelled-more, spelled-space, spelled-ended, not_space}
use Rattle.trace_text.specs.private.Spelled.{spelled, AreDigits, words_from}
use Rattle.trace_text.specs.declared.digits.TheConstants.{TENS}

power : (b k : ℕ) → b ^ suc k ≡ b ^ k * b
power b k = let same : k + 1 ≡ suc k = omega arith in rw same at (pow_more b k)

-- ---- the bytes of a word

-- n times the byte 46h, and n times the byte CFh
abbrev pub aboves : ℕ → ℕ
aboves zero = 0
aboves (suc n) = 70 + 256 * aboves n

abbrev pub belows : ℕ → ℕ
belows zero = 0
belows (suc n) = 207 + 256 * belows n

-- a number n bytes higher
abbrev pub far : ℕ → ℕ → ℕ
far zero p = p
far (suc n) p = 256 * far n p

-- the digits that k bytes from a place on spell
abbrev pub digits_from : List ℕ → ℕ → ℕ → List ℕ
digits_from xs i zero = []
digits_from xs i (suc k) = (get_or xs i 0 - 48) ∷ digits_from xs (i + 1) k

bytes_more : (n i : ℕ) (xs : List ℕ) → i < length xs → take (suc n) (drop i xs) ≡ get_or xs i 0 ∷ take n (drop (i + 1) xs)
bytes_more n i xs h = rw (drop_more xs i 0 h) refl

-- a byte with no high bit in either sum is a digit, and there is no carry from it
lane : (x w c d a b p q : ℕ) → x < 256 → a + 256 * p ≡ x + 256 * w + (70 + 256 * c) → b + 256 * q ≡ x + 256 * w + (207 + 256 * d + 1)
    → a / 128 % 2 ≡ 0 → b / 128 % 2 ≡ 0
    → IsInRange 48 57 x × (a / 256 + p ≡ w + c) × (b / 256 + q ≡ w + (d + 1)) × (b % 256 ≡ x - 48)
lane x w c d a b p q fit ea eb la lb =
    let low : 48 ≤ x = omega arith in
    let high : x ≤ 57 = omega arith in
    ((low, high), omega arith, omega arith, omega arith)

shifted : (a j : ℕ) → bit_at (a / 256) (8 * j + 7) ≡ bit_at a (8 * suc j + 7)
shifted a j =
    let parts : a / 256 * 2 ^ 8 + a % 256 ≡ a = omega arith in
    let place : 8 * suc j + 7 - 8 ≡ 8 * j + 7 = omega arith in
    sym (rw parts at (bit_at_cat_high (a / 256) 8 (a % 256) (8 * suc j + 7) (omega arith) (omega arith)) ∙ ap (bit_at (a / 256)) place)

-- the bytes before the first with a high bit are digits
pub leading : (xs : List ℕ) (n i a b p q k : ℕ) → ((j : ℕ) → get_or xs j 0 < 256) → i + n ≤ length xs
    → a + far n p ≡ number_l 256 (take n (drop i xs)) + aboves n
    → b + far n q ≡ number_l 256 (take n (drop i xs)) + (belows n + 1)
    → k ≤ n → ((j : ℕ) → j < k → (bit_at a (8 * j + 7) ≡ 0) × (bit_at b (8 * j + 7) ≡ 0))
    → ((j : ℕ) → j < k → IsInRange 48 57 (get_or xs (i + j) 0)) × (rest : ℕ) × (b ≡ number_l 256 (digits_from xs i k) + far k rest)
leading xs n i a b p q zero fit room ea eb within low = ((λ j l. absurd (omega arith)), b, omega arith)
leading xs zero i a b p q (suc k) fit room ea eb within low = absurd (omega arith)
leading xs (suc n) i a b p q (suc k) fit room ea eb within low =
    let x : ℕ = get_or xs i 0 in
    let w : ℕ = number_l 256 (take n (drop (i + 1) xs)) in
    let parts : number_l 256 (take (suc n) (drop i xs)) ≡ x + 256 * w = ap (number_l 256) (bytes_more n i xs (omega arith)) in
    let first = low 0 (omega arith) in
    let now = lane x w (aboves n) (belows n) a b (far n p) (far n q) (fit i) (omega arith) (omega arith) first.0 first.1 in
    let more = leading xs n (i + 1) (a / 256) (b / 256) p q k fit (omega arith) now.1 now.2 (omega arith)
    (λ j l. let next = low (suc j) (omega arith) in (shifted a j ∙ next.0, shifted b j ∙ next.1)) in
    (each now.0 more.0, more.1, omega (arith, more.2, now.3))
  where
    each : IsInRange 48 57 (get_or xs i 0) → ((j : ℕ) → j < k → IsInRange 48 57 (get_or xs (i + 1 + j) 0))
        → (j : ℕ) → j < suc k → IsInRange 48 57 (get_or xs (i + j) 0)
    each now later zero l = let same : i + 0 ≡ i = omega arith in rw same now
    each now later (suc j) l = let same : i + suc j ≡ i + 1 + j = omega arith in rw same (later j (omega arith))

-- ---- the high bits

high : (j : ℕ) → j < 8 → bit_at 9259542123273814144 (8 * j + 7) ≡ 1
high zero l = refl
high (suc zero) l = refl
high (suc (suc zero)) l = refl
high (suc (suc (suc zero))) l = refl
high (suc (suc (suc (suc zero)))) l = refl
high (suc (suc (suc (suc (suc zero))))) l = refl
high (suc (suc (suc (suc (suc (suc zero)))))) l = refl
high (suc (suc (suc (suc (suc (suc (suc zero))))))) l = refl
high (suc (suc (suc (suc (suc (suc (suc (suc j)))))))) l = absurd (omega arith)

pub neither : (a b j : ℕ) → j < 8 → bit_at (bit_and (bit_or a b) 9259542123273814144) (8 * j + 7) ≡ 0
    → (bit_at a (8 * j + 7) ≡ 0) × (bit_at b (8 * j + 7) ≡ 0)
neither a b j l none =
    let i : ℕ = 8 * j + 7 in
    let both : min (max (bit_at a i) (bit_at b i)) 1 ≡ 0 =
    rw (high j l) at (rw (bit_at_or a b i) at (sym (bit_at_and (bit_or a b) 9259542123273814144 i))) ∙ none in
    (omega arith, omega arith)

-- ---- the digits of a word as one number

-- the lowest byte of each pair
pairs_kept : (p q r s x y z w n : ℕ) → p < 256 → q < 256 → r < 256 → s < 256 → x < 256 → y < 256 → z < 256 → w < 256
    → n ≡ ((((w * 256 + s) * 65536) + (z * 256 + r)) * 65536 + (y * 256 + q)) * 65536 + (x * 256 + p)
    → bit_and n 71777214294589695 ≡ ((s * 65536 + r) * 65536 + q) * 65536 + p
pairs_kept p q r s x y z w n P Q R S X Y Z W e =
    let n3 : ℕ = w * 256 + s in
    let n2 : ℕ = n3 * 65536 + (z * 256 + r) in
    let n1 : ℕ = n2 * 65536 + (y * 256 + q) in
    let one : (v u : ℕ) → v < 256 → u < 256 → bit_and (v * 256 + u) 255 ≡ u = λ v u V U. and_mask (v * 256 + u) 8 ∙ omega arith in
    let b0 = and_block 16 n1 1095233372415 (x * 256 + p) 255 (omega arith) (omega arith) in
    let b1 = and_block 16 n2 16711935 (y * 256 + q) 255 (omega arith) (omega arith) in
    let b2 = and_block 16 n3 255 (z * 256 + r) 255 (omega arith) (omega arith) in
    rw e (omega (arith, b0, b1, b2, one x p X P, one y q Y Q, one z r Z R, one w s W S))

-- the lower half of each half
halves_kept : (p q x y n : ℕ) → p < 65536 → q < 65536 → x < 65536 → y < 65536
    → n ≡ (y * 65536 + q) * 4294967296 + (x * 65536 + p)
    → bit_and n 281470681808895 ≡ q * 4294967296 + p
halves_kept p q x y n P Q X Y e =
    let one : (v u : ℕ) → v < 65536 → u < 65536 → bit_and (v * 65536 + u) 65535 ≡ u = λ v u V U. and_mask (v * 65536 + u) 16 ∙ omega arith in
    let b0 = and_block 32 (y * 65536 + q) 65535 (x * 65536 + p) 65535 (omega arith) (omega arith) in
    rw e (omega (arith, b0, one x p X P, one y q Y Q))

-- a product without what is above the word and the lowest part
cut : (n above mid low c : ℕ) → low < c → mid * c + low < 18446744073709551616 → n ≡ above * 18446744073709551616 + (mid * c + low)
    → n % 18446744073709551616 / c ≡ mid
cut n above mid low c l fit e =
    ap (λ (m : ℕ). m % 18446744073709551616 / c) e
    ∙ ap (λ (m : ℕ). m / c) (mod-mul-add above 18446744073709551616 (mid * c + low) fit)
    ∙ div-mul-add mid c low l

abbrev pub joined_of : ℕ → ℕ
joined_of w =
    bit_and
    (bit_and (w * 2561 % 18446744073709551616 / 256) 71777214294589695 * 6553601 % 18446744073709551616 / 65536)
    281470681808895
    * 42949672960001 % 18446744073709551616 / 4294967296

joined_is : (a b c d e f g h w : ℕ) → a < 10 → b < 10 → c < 10 → d < 10 → e < 10 → f < 10 → g < 10 → h < 10
    → w ≡ a + 256 * (b + 256 * (c + 256 * (d + 256 * (e + 256 * (f + 256 * (g + 256 * (h + 256 * 0)))))))
    → joined_of w ≡ (a * 1000 + b * 100 + c * 10 + d) * 10000 + (e * 1000 + f * 100 + g * 10 + h)
joined_is a b c d e f g h w A B C D E F G H is =
    let p : ℕ = a * 10 + b in
    let x : ℕ = b * 10 + c in
    let q : ℕ = c * 10 + d in
    let y : ℕ = d * 10 + e in
    let r : ℕ = e * 10 + f in
    let z : ℕ = f * 10 + g in
    let s : ℕ = g * 10 + h in
    let n : ℕ = ((((0 * 256 + s) * 65536) + (z * 256 + r)) * 65536 + (y * 256 + q)) * 65536 + (x * 256 + p) in
    let product : w * 2561 ≡ (h * 10) * 18446744073709551616 + (n * 256 + a) = omega arith in
    let pairs = cut (w * 2561) (h * 10) n a 256 (omega arith) (omega arith) product in
    let kept = pairs_kept p q r s x y z 0 n (omega arith) (omega arith) (omega arith) (omega arith) (omega arith) (omega arith) (omega arith)
    (omega arith) refl in
    let m : ℕ = ((s * 65536 + r) * 65536 + q) * 65536 + p in
    let t : ℕ = p * 100 + q in
    let u : ℕ = r * 100 + s in
    let v : ℕ = q * 100 + r in
    let o : ℕ = (0 * 65536 + u) * 4294967296 + (v * 65536 + t) in
    let second : m * 6553601 ≡ (s * 100) * 18446744073709551616 + (o * 65536 + p) = omega arith in
    let fours = cut (m * 6553601) (s * 100) o p 65536 (omega arith) (omega arith) second in
    let halves = halves_kept t u v 0 o (omega arith) (omega arith) (omega arith) (omega arith) refl in
    let l : ℕ = u * 4294967296 + t in
    let third : l * 42949672960001 ≡ (u * 10000) * 18446744073709551616 + ((u + t * 10000) * 4294967296 + t) = omega arith in
    let whole = cut (l * 42949672960001) (u * 10000) (u + t * 10000) t 4294967296 (omega arith) (omega arith) third in
    rw (pairs, kept, fours, halves, whole) (omega arith)

-- the number of eight digits
pub eight_joined : (ds : List ℕ) (w : ℕ) → length ds ≡ 8 → AllBelowBase 10 ds → w ≡ number_l 256 ds → joined_of w ≡ number_from_digits 10 ds
eight_joined [] w l fit e = absurd (omega arith)
eight_joined (a ∷ []) w l fit e = absurd (omega arith)
eight_joined (a ∷ b ∷ []) w l fit e = absurd (omega arith)
eight_joined (a ∷ b ∷ c ∷ []) w l fit e = absurd (omega arith)
eight_joined (a ∷ b ∷ c ∷ d ∷ []) w l fit e = absurd (omega arith)
eight_joined (a ∷ b ∷ c ∷ d ∷ f ∷ []) w l fit e = absurd (omega arith)
eight_joined (a ∷ b ∷ c ∷ d ∷ f ∷ g ∷ []) w l fit e = absurd (omega arith)
eight_joined (a ∷ b ∷ c ∷ d ∷ f ∷ g ∷ i ∷ []) w l fit e = absurd (omega arith)
eight_joined (a ∷ b ∷ c ∷ d ∷ f ∷ g ∷ i ∷ j ∷ k ∷ ds) w l fit e = absurd (omega arith)
eight_joined (a ∷ b ∷ c ∷ d ∷ f ∷ g ∷ i ∷ j ∷ []) w l fit e =
    let fit1 = fit.1 in
    let fit2 = fit1.1 in
    let fit3 = fit2.1 in
    let fit4 = fit3.1 in
    let fit5 = fit4.1 in
    let fit6 = fit5.1 in
    let fit7 = fit6.1 in
    joined_is a b c d f g i j w fit.0 fit1.0 fit2.0 fit3.0 fit4.0 fit5.0 fit6.0 fit7.0 e ∙ omega arith

-- ---- fewer digits, with zeros in front

abbrev pad : ℕ → List ℕ → List ℕ
pad zero ds = ds
pad (suc m) ds = 0 ∷ pad m ds

length-pad : (m : ℕ) (ds : List ℕ) → length (pad m ds) ≡ m + length ds
length-pad zero ds = omega arith
length-pad (suc m) ds = omega (arith, length-pad m ds)

pad-below : (m : ℕ) (ds : List ℕ) → AllBelowBase 10 ds → AllBelowBase 10 (pad m ds)
pad-below zero ds fit = fit
pad-below (suc m) ds fit = (omega arith, pad-below m ds fit)

pad-word : (m : ℕ) (ds : List ℕ) → number_l 256 (pad m ds) ≡ number_l 256 ds * 256 ^ m
pad-word zero ds = omega arith
pad-word (suc m) ds =
    let more : 256 ^ suc m ≡ 256 ^ m * 256 = power 256 m in
    let once : number_l 256 ds * (256 ^ m * 256) ≡ number_l 256 ds * 256 ^ m * 256 = sym (mul_assoc (number_l 256 ds) (256 ^ m) 256) in
    rw more (omega (arith, pad-word m ds, once))

pad-number : (m : ℕ) (ds : List ℕ) → number_from_digits 10 (pad m ds) ≡ number_from_digits 10 ds
pad-number zero ds = refl
pad-number (suc m) ds = pad-number m ds

length-digits_from : (xs : List ℕ) (i k : ℕ) → length (digits_from xs i k) ≡ k
length-digits_from xs i zero = omega arith
length-digits_from xs i (suc k) = omega (arith, length-digits_from xs (i + 1) k)

digits-below : (xs : List ℕ) (i k : ℕ) → ((j : ℕ) → j < k → IsInRange 48 57 (get_or xs (i + j) 0)) → AllBelowBase 10 (digits_from xs i k)
digits-below xs i zero range = tt
digits-below xs i (suc k) range =
    let here : i + 0 ≡ i = omega arith in
    let first = rw here at (range 0 (omega arith)) in
    let later : (j : ℕ) → j < k → IsInRange 48 57 (get_or xs (i + 1 + j) 0) =
    λ j l. let same : i + 1 + j ≡ i + suc j = omega arith in rw same (range (suc j) (omega arith)) in
    (omega (arith, first.0, first.1), digits-below xs (i + 1) k later)

digits-word : (xs : List ℕ) (i k : ℕ) → AllBelowBase 10 (digits_from xs i k) → number_l 256 (digits_from xs i k) < 256 ^ k
digits-word xs i zero fit = omega arith
digits-word xs i (suc k) fit =
    let more : 256 ^ suc k ≡ 256 ^ k * 256 = power 256 k in
    rw more (omega (arith, fit.0, digits-word xs (i + 1) k fit.1))

-- the digits moved up to the end of the word, with zeros before them
up : (k n rest : ℕ) → k < 8 → n < 256 ^ k → (n + far k rest) * 2 ^ (56 - 8 * k) % 18446744073709551616 * 256 % 18446744073709551616 ≡ n * 256 ^ (8 - k)
up zero n rest l fit = omega arith
up (suc zero) n rest l fit = omega arith
up (suc (suc zero)) n rest l fit = omega arith
up (suc (suc (suc zero))) n rest l fit = omega arith
up (suc (suc (suc (suc zero)))) n rest l fit = omega arith
up (suc (suc (suc (suc (suc zero))))) n rest l fit = omega arith
up (suc (suc (suc (suc (suc (suc zero)))))) n rest l fit = omega arith
up (suc (suc (suc (suc (suc (suc (suc zero))))))) n rest l fit = omega arith
up (suc (suc (suc (suc (suc (suc (suc (suc k)))))))) n rest l fit = absurd (omega arith)

-- what a function that joins eight digits makes of k of them
pub few_joined : (xs : List ℕ) (i k w joined : ℕ) → k ≤ 8 → AllBelowBase 10 (digits_from xs i k) → w ≡ number_l 256 (digits_from xs i k) * 256 ^ (8 - k)
    → ((ds : List ℕ) → length ds ≡ 8 → AllBelowBase 10 ds → w ≡ number_l 256 ds → joined ≡ number_from_digits 10 ds)
    → joined ≡ number_from_digits 10 (digits_from xs i k)
few_joined xs i k w joined l fit e joins =
    let ds : List ℕ = digits_from xs i k in
    joins (pad (8 - k) ds) (omega (arith, length-pad (8 - k) ds, length-digits_from xs i k)) (pad-below (8 - k) ds fit) (e ∙ sym (pad-word (8 - k) ds))
    ∙ pad-number (8 - k) ds

-- ---- what the digits spell

spelled-digits : (xs : List ℕ) (k count n i : ℕ) → i + k ≤ length xs → ((j : ℕ) → j < k → IsInRange 48 57 (get_or xs (i + j) 0))
    → (n + 1) * 10 ^ k ≤ 18446744073709551616
    → spelled 10 count n (drop i xs) ≡ spelled 10 (count + k) (number_from_digits_after 10 n (digits_from xs i k)) (drop (i + k) xs)
spelled-digits xs zero count n i room range fits =
    let same : count + 0 ≡ count = omega arith in
    let here : i + 0 ≡ i = omega arith in
    rw (same, here) refl
spelled-digits xs (suc k) count n i room range fits =
    let byte : ℕ = get_or xs i 0 in
    let here : i + 0 ≡ i = omega arith in
    let digit = rw here at (range 0 (omega arith)) in
    let value : digit_value byte ≡ byte - 48 = omega (arith, digit_value_digit byte digit) in
    let small : digit_value byte < 10 = omega (arith, digit.0, digit.1) in
    let m : ℕ = n * 10 + (byte - 48) in
    let more_power : 10 ^ suc k ≡ 10 ^ k * 10 = power 10 k in
    let some : 1 ≤ 10 ^ k = one-le-pow k 10 (omega arith) in
    let room_left : (m + 1) * 10 ^ k ≤ (n + 1) * 10 * 10 ^ k = mul-le (m + 1) (10 ^ k) ((n + 1) * 10) (10 ^ k) (omega arith) (omega arith) in
    let turned : (n + 1) * (10 ^ k * 10) ≡ (n + 1) * 10 * 10 ^ k = omega arith in
    let fits_still : (m + 1) * 10 ^ k ≤ 18446744073709551616 = omega (arith, rw more_power at fits) in
    let least : m + 1 ≤ (m + 1) * 10 ^ k = le-mul_of_pos_right (m + 1) some in
    let more = spelled-more 10 count n i xs (omega arith) (not_space 10 byte (omega arith) small) small (omega arith) in
    let rest = spelled-digits xs k (count + 1) m (i + 1) (omega arith)
    (λ j l. let same : i + 1 + j ≡ i + suc j = omega arith in rw same (range (suc j) (omega arith))) fits_still in
    let counted : count + suc k ≡ count + 1 + k = omega arith in
    let place : i + suc k ≡ i + 1 + k = omega arith in
    rw (counted, place) (rw value at more ∙ rest)

number_after : (ds : List ℕ) (n : ℕ) → number_from_digits_after 10 n ds ≡ n * 10 ^ length ds + number_from_digits 10 ds
number_after [] n = omega arith
number_after (d ∷ ds) n =
    let more : 10 ^ suc (length ds) ≡ 10 ^ length ds * 10 = power 10 (length ds) in
    let zero_first = number_after ds (0 * 10 + d) in
    let other = number_after ds (n * 10 + d) in
    let spread : (n * 10 + d) * 10 ^ length ds ≡ n * (10 ^ length ds * 10) + (0 * 10 + d) * 10 ^ length ds = omega arith in
    rw more (omega (arith, zero_first, other, spread))

pub are_digits : (xs : List ℕ) (i k n : ℕ) → i + k ≤ length xs → ((j : ℕ) → j < k → IsInRange 48 57 (get_or xs (i + j) 0))
    → n ≡ number_from_digits 10 (digits_from xs i k) → AreDigits xs i (i + k) n
are_digits xs i k n room range is =
    let ds : List ℕ = digits_from xs i k in
    let long : length ds ≡ k = length-digits_from xs i k in
    let count : i + k - i ≡ k = omega arith in
    let below : n < 10 ^ k = rw (long, ← is) at (number_lt 10 ds (digits-below xs i k range)) in
    rw count (
      below,
      λ already read fits.
          let after = rw (long, ← is) at (number_after ds read) in
          rw (← after) (spelled-digits xs k already read i room range fits),
    )

-- ---- what is made of a word

abbrev pub less_zeros : ℕ → ℕ
less_zeros w = (w + 14974415777481871312) % 18446744073709551616

abbrev pub others : ℕ → ℕ
others w = bit_and (bit_or ((w + 5063812098665367110) % 18446744073709551616) (less_zeros w)) 9259542123273814144

word-fits : (xs : List ℕ) (n i : ℕ) → ((j : ℕ) → get_or xs j 0 < 256) → i + n ≤ length xs → number_l 256 (take n (drop i xs)) < 256 ^ n
word-fits xs zero i fit room = omega arith
word-fits xs (suc n) i fit room =
    let more : 256 ^ suc n ≡ 256 ^ n * 256 = power 256 n in
    let parts : number_l 256 (take (suc n) (drop i xs)) ≡ get_or xs i 0 + 256 * number_l 256 (take n (drop (i + 1) xs)) =
    ap (number_l 256) (bytes_more n i xs (omega arith)) in
    omega (arith, more, parts, fit i, word-fits xs n (i + 1) fit (omega arith))

first_digits : (xs : List ℕ) (i w k : ℕ) → ((j : ℕ) → get_or xs j 0 < 256) → i + 8 ≤ length xs
    → w ≡ number_l 256 (take 8 (drop i xs)) % 18446744073709551616 → k ≤ 8 → ((j : ℕ) → j < k → bit_at (others w) (8 * j + 7) ≡ 0)
    → ((j : ℕ) → j < k → IsInRange 48 57 (get_or xs (i + j) 0)) × (rest : ℕ) × (less_zeros w ≡ number_l 256 (digits_from xs i k) + far k rest)
first_digits xs i w k fit room is few none =
    let small : number_l 256 (take 8 (drop i xs)) < 18446744073709551616 = word-fits xs 8 i fit room in
    let a : ℕ = (w + 5063812098665367110) % 18446744073709551616 in
    leading xs 8 i a (less_zeros w) ((w + 5063812098665367110) / 18446744073709551616) ((w + 14974415777481871312) / 18446744073709551616) k fit room
    (omega arith) (omega arith) few (λ j l. neither a (less_zeros w) j (omega arith) (none j l))

-- all eight bytes are digits
pub all_digits : (xs : List ℕ) (i w joined : ℕ) → ((j : ℕ) → get_or xs j 0 < 256) → i + 8 ≤ length xs
    → w ≡ number_l 256 (take 8 (drop i xs)) % 18446744073709551616 → others w ≡ 0
    → ((ds : List ℕ) → length ds ≡ 8 → AllBelowBase 10 ds → less_zeros w ≡ number_l 256 ds → joined ≡ number_from_digits 10 ds)
    → AreDigits xs i (i + 8) joined
all_digits xs i w joined fit room is none joins =
    let read = first_digits xs i w 8 fit room is (omega arith) (λ j l. ap (λ (m : ℕ). bit_at m (8 * j + 7)) none ∙ bit_at-zero (8 * j + 7)) in
    let below : AllBelowBase 10 (digits_from xs i 8) = digits-below xs i 8 read.0 in
    let whole : less_zeros w ≡ number_l 256 (digits_from xs i 8) * 256 ^ (8 - 8) = omega (arith, read.2) in
    are_digits xs i 8 joined room read.0 (few_joined xs i 8 (less_zeros w) joined (omega arith) below whole joins)

-- those before the first other byte are
pub fewer_digits : (xs : List ℕ) (i w joined : ℕ) → ((j : ℕ) → get_or xs j 0 < 256) → i + 8 ≤ length xs
    → w ≡ number_l 256 (take 8 (drop i xs)) % 18446744073709551616 → 0 < others w
    → ((ds : List ℕ) → length ds ≡ 8 → AllBelowBase 10 ds
    → less_zeros w * 2 ^ (56 - 8 * (trailing_zeros w64 (others w) / 8)) % 18446744073709551616 * 256 % 18446744073709551616 ≡ number_l 256 ds
    → joined ≡ number_from_digits 10 ds)
    → (trailing_zeros w64 (others w) / 8 < 8) × AreDigits xs i (i + trailing_zeros w64 (others w) / 8) joined
fewer_digits xs i w joined fit room is some joins =
    let small : others w < 2 ^ 64 = omega (arith, and_le_r (bit_or ((w + 5063812098665367110) % 18446744073709551616) (less_zeros w)) 9259542123273814144) in
    let lowest = bit_at-trailing_zeros w64 (others w) some small in
    let k : ℕ = trailing_zeros w64 (others w) / 8 in
    let few : k < 8 = omega (arith, lowest.0) in
    let read = first_digits xs i w k fit room is (omega arith) (λ j l. lowest.2 (8 * j + 7) (omega arith)) in
    let below : AllBelowBase 10 (digits_from xs i k) = digits-below xs i k read.0 in
    let moved : less_zeros w * 2 ^ (56 - 8 * k) % 18446744073709551616 * 256 % 18446744073709551616 ≡ number_l 256 (digits_from xs i k) * 256 ^ (8 - k) =
    ap (λ (d : ℕ). d * 2 ^ (56 - 8 * k) % 18446744073709551616 * 256 % 18446744073709551616) read.2
    ∙ up k (number_l 256 (digits_from xs i k)) read.1 few (digits-word xs i k below) in
    (few, are_digits xs i k joined (omega arith) read.0 (few_joined xs i k _ joined (omega arith) below moved joins))

-- ---- how a number begins

pub eight_first : (xs : List ℕ) (at n : ℕ) → AreDigits xs at (at + 8) n
    → (spelled 10 0 0 (drop at xs) ≡ spelled 10 8 n (drop (at + 8) xs)) × (n < 16 ^ 8)
eight_first xs at n h =
    let count : at + 8 - at ≡ 8 = omega arith in
    let read = rw count at h in
    let value : 0 * 10 ^ 8 + n ≡ n = omega arith in
    (rw value at (read.1 0 0 (omega arith)), omega (arith, read.0))

pub fewer_first : (xs : List ℕ) (at end n : ℕ) → at ≤ end → end < at + 8 → end < length xs → AreDigits xs at end n → get_or xs end 0 ≡ 32
    → spelled 10 0 0 (drop at xs) ≡ Some (record { count = end - at; value = n; left = words_from (end + 1) xs })
fewer_first xs at end n start few inside h space =
    let power_fits : 10 ^ (end - at) ≤ 10 ^ 8 = pow-le-pow_right {n = 10} (omega arith) {i = end - at} {j = 8} (omega arith) in
    let value : 0 * 10 ^ (end - at) + n ≡ n = omega arith in
    let count : 0 + (end - at) ≡ end - at = omega arith in
    rw (value, count) at (h.1 0 0 (omega (arith, power_fits))) ∙ spelled-space 10 (end - at) n end xs inside space

-- ---- a number of two words

pub power_of : (k : ℕ) → k < 8 → get_or TENS k 0 ≡ 10 ^ k
power_of zero l = refl
power_of (suc zero) l = refl
power_of (suc (suc zero)) l = refl
power_of (suc (suc (suc zero))) l = refl
power_of (suc (suc (suc (suc zero)))) l = refl
power_of (suc (suc (suc (suc (suc zero))))) l = refl
power_of (suc (suc (suc (suc (suc (suc zero)))))) l = refl
power_of (suc (suc (suc (suc (suc (suc (suc zero))))))) l = refl
power_of (suc (suc (suc (suc (suc (suc (suc (suc k)))))))) l = absurd (omega arith)

-- with no more than eight digits after the first eight it fits 64 bits
pub eight_more : (n k m : ℕ) → n < 100000000 → k ≤ 8 → m < 10 ^ k → ((n + 1) * 10 ^ k ≤ 10000000000000000) × (n * 10 ^ k + m < 10000000000000000)
eight_more n k m first few more =
    let least : 10 ^ k ≤ 100000000 = pow-le-pow_right {n = 10} (omega arith) {i = k} {j = 8} few in
    let product : (n + 1) * 10 ^ k ≤ 100000000 * 100000000 = mul-le (n + 1) (10 ^ k) 100000000 100000000 (omega arith) least in
    let spread : (n + 1) * 10 ^ k ≡ n * 10 ^ k + 10 ^ k = omega arith in
    (omega arith, omega arith)

pub two_words : (xs : List ℕ) (at end n m : ℕ) → at + 8 ≤ end → end ≤ at + 16 → AreDigits xs at (at + 8) n → AreDigits xs (at + 8) end m
    → (end < length xs → get_or xs end 0 ≡ 32)
    → spelled 10 0 0 (drop at xs) ≡ Some (record { count = end - at; value = n * 10 ^ (end - (at + 8)) + m; left = words_from (end + 1) xs })
two_words xs at end n m start near first second space =
    let k : ℕ = end - (at + 8) in
    let eight : at + 8 - at ≡ 8 = omega arith in
    let small : n < 10 ^ 8 = rw eight at first.0 in
    let fits = eight_more n k m small (omega arith) second.0 in
    let count : 8 + k ≡ end - at = omega arith in
    rw (← count)
    ((eight_first xs at n first).0 ∙ second.1 8 n (omega (arith, fits.0)) ∙ spelled-ended 10 (8 + k) (n * 10 ^ k + m) end xs space)
