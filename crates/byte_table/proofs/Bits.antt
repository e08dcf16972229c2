-- Flags of one byte, taken apart and put together.
use Rattle.std.proofs.Common.{◌≡◌, ℕ, zero, suc, ◌+◌, ◌*◌, ◌/◌, ◌%◌, ◌^◌, ◌<◌, ◌≤◌, Bool, true, false, cond, eqb, [], ◌∷◌, refl, ap, ◌∙◌, arith}
use Rattle.clk_units.specs.Bits.{bit, bit_value}
use Rattle.byte_table.specs.Codes.{flags_byte}

-- eight flags as a byte
abbrev pub byte_with : Bool → Bool → Bool → Bool → Bool → Bool → Bool → Bool → ℕ
byte_with b0 b1 b2 b3 b4 b5 b6 b7 = flags_byte 0 (b0 ∷ b1 ∷ b2 ∷ b3 ∷ b4 ∷ b5 ∷ b6 ∷ b7 ∷ [])

-- the bits of a byte
pub record HasBits (x : ℕ) (b0 b1 b2 b3 b4 b5 b6 b7 : Bool) : Type 0 where
  pub bit_0 : bit 0 x ≡ b0
  pub bit_1 : bit 1 x ≡ b1
  pub bit_2 : bit 2 x ≡ b2
  pub bit_3 : bit 3 x ≡ b3
  pub bit_4 : bit 4 x ≡ b4
  pub bit_5 : bit 5 x ≡ b5
  pub bit_6 : bit 6 x ≡ b6
  pub bit_7 : bit 7 x ≡ b7

-- a flag as a digit
abbrev digit : Bool → ℕ
digit b = cond b 1 0

record IsDigit (b : Bool) (v : ℕ) : Type 0 where
  small : v ≤ 1
  value : (k : ℕ) → bit_value b k ≡ v * 2 ^ k
  test : eqb v 1 ≡ b

digit-is : (b : Bool) → IsDigit b (digit b)
digit-is false = record { small = omega arith; value = λ (k : ℕ). omega arith; test = refl }
digit-is true = record { small = omega arith; value = λ (k : ℕ). omega arith; test = refl }

-- the digits of a byte, the lowest first
record HasDigits (x v0 v1 v2 v3 v4 v5 v6 v7 : ℕ) : Type 0 where
  sum : x ≡ v0 + v1 * 2 + v2 * 4 + v3 * 8 + v4 * 16 + v5 * 32 + v6 * 64 + v7 * 128
  low : (v0 ≤ 1) × (v1 ≤ 1) × (v2 ≤ 1) × (v3 ≤ 1)
  high : (v4 ≤ 1) × (v5 ≤ 1) × (v6 ≤ 1) × (v7 ≤ 1)

digits : (x v0 v1 v2 v3 v4 v5 v6 v7 : ℕ) → HasDigits x v0 v1 v2 v3 v4 v5 v6 v7
    → (x / 1 % 2 ≡ v0) × (x / 2 % 2 ≡ v1) × (x / 4 % 2 ≡ v2) × (x / 8 % 2 ≡ v3) × (x / 16 % 2 ≡ v4) × (x / 32 % 2 ≡ v5) × (x / 64 % 2 ≡ v6) × (x / 128 % 2 ≡ v7)
digits x v0 v1 v2 v3 v4 v5 v6 v7 h = (omega arith, omega arith, omega arith, omega arith, omega arith, omega arith, omega arith, omega arith)

-- the bits of eight flags are the flags
pub HasBits-byte_with : (b0 b1 b2 b3 b4 b5 b6 b7 : Bool) → HasBits (byte_with b0 b1 b2 b3 b4 b5 b6 b7) b0 b1 b2 b3 b4 b5 b6 b7
HasBits-byte_with b0 b1 b2 b3 b4 b5 b6 b7 =
    let d0 = digit-is b0 in
    let d1 = digit-is b1 in
    let d2 = digit-is b2 in
    let d3 = digit-is b3 in
    let d4 = digit-is b4 in
    let d5 = digit-is b5 in
    let d6 = digit-is b6 in
    let d7 = digit-is b7 in
    let x : ℕ = byte_with b0 b1 b2 b3 b4 b5 b6 b7 in
    let are : HasDigits x (digit b0) (digit b1) (digit b2) (digit b3) (digit b4) (digit b5) (digit b6) (digit b7) = record {
      sum = omega (arith, d0.value 0, d1.value 1, d2.value 2, d3.value 3, d4.value 4, d5.value 5, d6.value 6, d7.value 7);
      low = (d0.small, d1.small, d2.small, d3.small);
      high = (d4.small, d5.small, d6.small, d7.small);
    } in
    let ds = digits x (digit b0) (digit b1) (digit b2) (digit b3) (digit b4) (digit b5) (digit b6) (digit b7) are in
    record {
      bit_0 = ap (λ (n : ℕ). eqb n 1) ds.0 ∙ d0.test;
      bit_1 = ap (λ (n : ℕ). eqb n 1) ds.1 ∙ d1.test;
      bit_2 = ap (λ (n : ℕ). eqb n 1) ds.2 ∙ d2.test;
      bit_3 = ap (λ (n : ℕ). eqb n 1) ds.3 ∙ d3.test;
      bit_4 = ap (λ (n : ℕ). eqb n 1) ds.4 ∙ d4.test;
      bit_5 = ap (λ (n : ℕ). eqb n 1) ds.5 ∙ d5.test;
      bit_6 = ap (λ (n : ℕ). eqb n 1) ds.6 ∙ d6.test;
      bit_7 = ap (λ (n : ℕ). eqb n 1) ds.7 ∙ d7.test;
    }

bit_value-digit : (y k : ℕ) → y < 2 → bit_value (eqb y 1) k ≡ y * 2 ^ k
bit_value-digit zero k h = omega arith
bit_value-digit (suc zero) k h = omega arith
bit_value-digit (suc (suc y)) k h = absurd (omega arith)

bit_value-bit : (x k : ℕ) → bit_value (bit k x) k ≡ x / 2 ^ k % 2 * 2 ^ k
bit_value-bit x k = bit_value-digit (x / 2 ^ k % 2) k (omega arith)

-- a byte is that of its bits
pub byte_with-bits : (x : ℕ) → x < 256 → byte_with (bit 0 x) (bit 1 x) (bit 2 x) (bit 3 x) (bit 4 x) (bit 5 x) (bit 6 x) (bit 7 x) ≡ x
byte_with-bits x h =
    let low : ℕ = x / 1 % 2 * 1 + x / 2 % 2 * 2 + x / 4 % 2 * 4 + x / 8 % 2 * 8 in
    let high : ℕ = x / 16 % 2 * 16 + x / 32 % 2 * 32 + x / 64 % 2 * 64 + x / 128 % 2 * 128 in
    let all : low + high ≡ x = omega arith in
    let s01 : bit_value (bit 0 x) 0 + bit_value (bit 1 x) 1 ≡ x / 1 % 2 * 1 + x / 2 % 2 * 2 = omega (arith, bit_value-bit x 0, bit_value-bit x 1) in
    let s23 : bit_value (bit 2 x) 2 + bit_value (bit 3 x) 3 ≡ x / 4 % 2 * 4 + x / 8 % 2 * 8 = omega (arith, bit_value-bit x 2, bit_value-bit x 3) in
    let s45 : bit_value (bit 4 x) 4 + bit_value (bit 5 x) 5 ≡ x / 16 % 2 * 16 + x / 32 % 2 * 32 = omega (arith, bit_value-bit x 4, bit_value-bit x 5) in
    let s67 : bit_value (bit 6 x) 6 + bit_value (bit 7 x) 7 ≡ x / 64 % 2 * 64 + x / 128 % 2 * 128 = omega (arith, bit_value-bit x 6, bit_value-bit x 7) in
    omega (arith, all, s01, s23, s45, s67)
