-- The bits of the timers of which a test f doesn't hold.
use Rattle.std.proofs.Common.{◌≡◌, ℕ, zero, suc, ◌+◌, ◌-◌, ◌*◌, ◌/◌, ◌%◌, ◌^◌, ◌<◌, ◌≤◌, Bool, true, false, cond, not, eqb, List, length, set, get_or}
use Rattle.std.proofs.Common.{inl, inr, refl, sym, ap, subst, ◌∙◌, arith}
use Rattle.std.proofs.Math.Nat.{pow-suc, pow-le-pow_right, lt-div-mul-add, div-eq_of_lt}
use Rattle.std.proofs.lemmas.Nat.{pow_pos}
use Rattle.std.proofs.lemmas.Bool.{cases_eq}
use Rattle.std.proofs.lemmas.List.{get_or-set_same, get_or-set_other}
use Rattle.std.proofs.lemmas.Nat.Bits.{bit_at-zero, bit_at_above, bit_at_cat_low, bit_at_cat_high, bit_at-trailing_zeros}
use Rattle.std.specs.Int.{bit_at, w64, trailing_zeros}
use Rattle.clk_units.specs.Bits.{bit}
use Rattle.lapic_timer.specs.declared.parts.ApicParts.{ApicParts}
use Rattle.local_apics.specs.private.Mask.{bits_below}
use Rattle.local_apics.specs.Places.{no_timer}

pub bits_below-same : (f : ApicParts → Bool) (n : ℕ) (ts us : List ApicParts)
    → ((j : ℕ) → j < n → get_or ts j no_timer ≡ get_or us j no_timer) → bits_below f n ts ≡ bits_below f n us
unfolding bits_below
bits_below-same f zero ts us e = refl
bits_below-same f (suc n) ts us e =
    ap (λ (m : ℕ). m + cond (f (get_or ts n no_timer)) 0 (2 ^ n)) (bits_below-same f n ts us (λ j less. e j (omega arith)))
    ∙ ap (λ (p : ApicParts). bits_below f n us + cond (f p) 0 (2 ^ n)) (e n (omega arith))

small_with : (b : Bool) (a x y : ℕ) → a < x → y ≡ 2 * x → a + cond b 0 x < y
small_with true a x y h e = omega (arith, h, e)
small_with false a x y h e = omega (arith, h, e)

pub bits_below-small : (f : ApicParts → Bool) (n : ℕ) (ts : List ApicParts) → bits_below f n ts < 2 ^ n
unfolding bits_below
bits_below-small f zero ts = omega arith
bits_below-small f (suc n) ts =
    small_with (f (get_or ts n no_timer)) (bits_below f n ts) (2 ^ n) (2 ^ suc n) (bits_below-small f n ts) (omega (arith, pow-suc 2 n))

bit_here : (b : Bool) (a n : ℕ) → a < 2 ^ n → bit_at (a + cond b 0 (2 ^ n)) n ≡ cond b 0 1
bit_here true a n h = ap (λ (x : ℕ). bit_at x n) (omega arith) ∙ bit_at_above a n n h (omega arith)
bit_here false a n h =
    let e : a + 2 ^ n ≡ 1 * 2 ^ n + a = omega arith in
    let z : n - n ≡ 0 = omega arith in
    ap (λ (x : ℕ). bit_at x n) e ∙ bit_at_cat_high 1 n a n h (omega arith) ∙ ap (λ (i : ℕ). bit_at 1 i) z

bit_before : (b : Bool) (a n k : ℕ) → k < n → bit_at (a + cond b 0 (2 ^ n)) k ≡ bit_at a k
bit_before true a n k less = ap (λ (x : ℕ). bit_at x k) (omega arith)
bit_before false a n k less =
    let e : a + 2 ^ n ≡ 1 * 2 ^ n + a = omega arith in
    ap (λ (x : ℕ). bit_at x k) e ∙ bit_at_cat_low 1 n a k less

bit_at-bits_below : (f : ApicParts → Bool) (n k : ℕ) (ts : List ApicParts) → k < n
    → ◌≡◌ {A = ℕ} (bit_at (bits_below f n ts) k) (cond (f (get_or ts k no_timer)) 0 1)
unfolding bits_below
bit_at-bits_below f zero k ts less = absurd (omega arith)
bit_at-bits_below f (suc n) k ts less = elim (cases_eq k n) [
  | inl same ↦ ap (bit_at (bits_below f (suc n) ts)) same ∙ bit_here (f (get_or ts n no_timer)) (bits_below f n ts) n (bits_below-small f n ts)
      ∙ ap (λ (j : ℕ). cond (f (get_or ts j no_timer)) 0 1) (sym same)
  | inr other ↦
      let before : k < n = omega (arith, other) in
      bit_before (f (get_or ts n no_timer)) (bits_below f n ts) n k before ∙ bit_at-bits_below f n k ts before
]

-- a bit is clear where the test holds
pub bit-clear : (f : ApicParts → Bool) (k m : ℕ) (ts : List ApicParts) → k < 64 → m ≡ bits_below f 64 ts → not (bit k m) ≡ f (get_or ts k no_timer)
bit-clear f k m ts less e =
    ap (λ (x : ℕ). not (eqb x 1)) (ap (λ (x : ℕ). bit_at x k) e ∙ bit_at-bits_below f 64 k ts less) ∙ by_test (f (get_or ts k no_timer))
  where
    by_test : (b : Bool) → not (eqb (cond b 0 1) 1) ≡ b
    by_test true = refl
    by_test false = refl

-- a bit that is 0
pub zero-clear : (f : ApicParts → Bool) (k m : ℕ) (ts : List ApicParts) → k < 64 → m ≡ bits_below f 64 ts → bit_at m k ≡ 0 → f (get_or ts k no_timer) ≡ true
zero-clear f k m ts less e none = sym (bit-clear f k m ts less e) ∙ ap (λ (x : ℕ). not (eqb x 1)) none

-- no bit at all
pub none-clear : (f : ApicParts → Bool) (k m : ℕ) (ts : List ApicParts) → k < 64 → m ≡ bits_below f 64 ts → m ≡ 0 → f (get_or ts k no_timer) ≡ true
none-clear f k m ts less e none = zero-clear f k m ts less e (ap (λ (x : ℕ). bit_at x k) none ∙ bit_at-zero k)

-- the bit of a timer
abbrev pub bit_of : (ApicParts → Bool) → ApicParts → ℕ → ℕ
bit_of f p k = cond (f p) 0 (2 ^ k)

pub bits_below-has : (f : ApicParts → Bool) (n k : ℕ) (ts : List ApicParts) → k < n → bit_of f (get_or ts k no_timer) k ≤ bits_below f n ts
unfolding bits_below
bits_below-has f zero k ts less = absurd (omega arith)
bits_below-has f (suc n) k ts less = elim (cases_eq k n) [
  | inl same ↦
      subst (λ (j : ℕ). bit_of f (get_or ts j no_timer) j ≤ bits_below f n ts + bit_of f (get_or ts n no_timer) n) (sym same) (omega arith)
  | inr other ↦
      let before : bit_of f (get_or ts k no_timer) k ≤ bits_below f n ts = bits_below-has f n k ts (omega (arith, other)) in
      omega (arith, before)
]

-- another timer at a place
pub bits_below-set : (f : ApicParts → Bool) (n k : ℕ) (ts : List ApicParts) (p : ApicParts) → k < n → k < length ts
    → bits_below f n (set ts k p) + bit_of f (get_or ts k no_timer) k ≡ bits_below f n ts + bit_of f p k
unfolding bits_below
bits_below-set f zero k ts p less inside = absurd (omega arith)
bits_below-set f (suc n) k ts p less inside = elim (cases_eq k n) [
  | inl same ↦
      let rest : bits_below f n (set ts k p) ≡ bits_below f n ts =
      bits_below-same f n (set ts k p) ts (λ j few. get_or-set_other ts k j p no_timer (λ e. absurd (omega (arith, e, same, few)))) in
      let here : bit_of f (get_or (set ts k p) n no_timer) n ≡ bit_of f p k =
      ap (λ (j : ℕ). bit_of f (get_or (set ts k p) j no_timer) j) (sym same) ∙ ap (λ (q : ApicParts). bit_of f q k) (get_or-set_same ts k p no_timer inside) in
      let old : bit_of f (get_or ts n no_timer) n ≡ bit_of f (get_or ts k no_timer) k =
      ap (λ (j : ℕ). bit_of f (get_or ts j no_timer) j) (sym same) in
      omega (arith, rest, here, old)
  | inr other ↦
      let before : bits_below f n (set ts k p) + bit_of f (get_or ts k no_timer) k ≡ bits_below f n ts + bit_of f p k =
      bits_below-set f n k ts p (omega (arith, other)) inside in
      let last : bit_of f (get_or (set ts k p) n no_timer) n ≡ bit_of f (get_or ts n no_timer) n =
      ap (λ (q : ApicParts). bit_of f q n) (get_or-set_other ts k n p no_timer (λ e. other (sym e))) in
      omega (arith, before, last)
]

-- the mask with that bit
pub mask-set : (f : ApicParts → Bool) (k m : ℕ) (ts : List ApicParts) (p : ApicParts) → k < 64 → length ts ≡ 64 → bits_below f 64 ts ≡ m
    → (bit_of f (get_or ts k no_timer) k ≤ m)
    × (m - bit_of f (get_or ts k no_timer) k + bit_of f p k < 2 ^ 64)
    × (bits_below f 64 (set ts k p) ≡ m - bit_of f (get_or ts k no_timer) k + bit_of f p k)
mask-set f k m ts p less long e =
    let has : bit_of f (get_or ts k no_timer) k ≤ bits_below f 64 ts = bits_below-has f 64 k ts less in
    let moved : bits_below f 64 (set ts k p) + bit_of f (get_or ts k no_timer) k ≡ bits_below f 64 ts + bit_of f p k =
    bits_below-set f 64 k ts p less (omega (arith, less, long)) in
    let small : bits_below f 64 (set ts k p) < 2 ^ 64 = bits_below-small f 64 (set ts k p) in
    (omega (arith, has, e), omega (arith, has, moved, small, e), omega (arith, has, moved, e))

-- .. by the answers of the test before and after
pub mask-with : (f : ApicParts → Bool) (k m : ℕ) (ts : List ApicParts) (old p : ApicParts) (was is : Bool) → k < 64 → length ts ≡ 64
    → bits_below f 64 ts ≡ m → old ≡ get_or ts k no_timer → was ≡ f old → is ≡ f p
    → (cond was 0 (2 ^ k) ≤ m)
    × (m - cond was 0 (2 ^ k) + cond is 0 (2 ^ k) < 2 ^ 64)
    × (bits_below f 64 (set ts k p) ≡ m - cond was 0 (2 ^ k) + cond is 0 (2 ^ k))
mask-with f k m ts old p was is less long e there before after =
    subst (λ (b : Bool). (cond b 0 (2 ^ k) ≤ m) × (m - cond b 0 (2 ^ k) + cond is 0 (2 ^ k) < 2 ^ 64)
    × (bits_below f 64 (set ts k p) ≡ m - cond b 0 (2 ^ k) + cond is 0 (2 ^ k))) (sym (before ∙ ap f there))
    (subst (λ (b : Bool). (bit_of f (get_or ts k no_timer) k ≤ m) × (m - bit_of f (get_or ts k no_timer) k + cond b 0 (2 ^ k) < 2 ^ 64)
    × (bits_below f 64 (set ts k p) ≡ m - bit_of f (get_or ts k no_timer) k + cond b 0 (2 ^ k))) (sym after) (mask-set f k m ts p less long e))

-- a mask stays where the test answers as before
pub mask-same : (f : ApicParts → Bool) (k m : ℕ) (ts : List ApicParts) (p : ApicParts) → k < 64 → length ts ≡ 64 → bits_below f 64 ts ≡ m
    → f p ≡ f (get_or ts k no_timer) → bits_below f 64 (set ts k p) ≡ m
mask-same f k m ts p less long e same =
    let is : bits_below f 64 (set ts k p) + bit_of f (get_or ts k no_timer) k ≡ bits_below f 64 ts + bit_of f p k =
    bits_below-set f 64 k ts p less (omega (arith, less, long)) in
    let bits : bit_of f p k ≡ bit_of f (get_or ts k no_timer) k = ap (λ (b : Bool). cond b 0 (2 ^ k)) same in
    omega (arith, is, bits, e)

-- a mask that has no bit from place n on
pub high-clear : (f : ApicParts → Bool) (n k m : ℕ) (ts : List ApicParts) → n ≤ k → k < 64 → m ≡ bits_below f 64 ts → m / 2 ^ n ≡ 0
    → f (get_or ts k no_timer) ≡ true
high-clear f n k m ts order less e none =
    let small : m < m / 2 ^ n * 2 ^ n + 2 ^ n = lt-div-mul-add (pow_pos n) in
    let grown : 2 ^ n ≤ 2 ^ k = pow-le-pow_right {n = 2} (omega arith) order in
    let within : m < 2 ^ k = below m (m / 2 ^ n) (2 ^ n) (2 ^ k) none small grown in
    zero-clear f k m ts less e (ap (λ (x : ℕ). x % 2) (div-eq_of_lt within))
  where
    below : (m q x y : ℕ) → q ≡ 0 → m < q * x + x → x ≤ y → m < y
    below m q x y e h order = (let f : q * x ≡ 0 * x = ap (λ (i : ℕ). i * x) e in omega (arith, f, h, order))

-- .. or none before its lowest
pub low-clear : (f : ApicParts → Bool) (k m : ℕ) (ts : List ApicParts) → k < trailing_zeros w64 m → k < 64 → m ≡ bits_below f 64 ts
    → f (get_or ts k no_timer) ≡ true
low-clear f k m ts low less e = elim (cases_eq m 0) [
  | inl none ↦ none-clear f k m ts less e none
  | inr some ↦
      let small : bits_below f 64 ts < 2 ^ 64 = bits_below-small f 64 ts in
      zero-clear f k m ts less e ((bit_at-trailing_zeros w64 m (omega (arith, some)) (omega (arith, small, e))).2 k low)
]

-- timers of which the test holds have no bit
pub bits_below-none : (f : ApicParts → Bool) (n : ℕ) (ts : List ApicParts) → ((k : ℕ) → k < n → f (get_or ts k no_timer) ≡ true) → bits_below f n ts ≡ 0
unfolding bits_below
bits_below-none f zero ts holds = refl
bits_below-none f (suc n) ts holds =
    ap (λ (b : Bool). bits_below f n ts + cond b 0 (2 ^ n)) (holds n (omega arith))
    ∙ ap (λ (m : ℕ). m + 0) (bits_below-none f n ts (λ k less. holds k (omega arith)))
