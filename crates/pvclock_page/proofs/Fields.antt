-- What a guest reads of a page's bytes, and what words give back.
use Rattle.std.proofs.Common.{◌≡◌, ℕ, ℤ, pos, negsuc, ◌+◌, ◌*◌, ◌/◌, ◌%◌, ◌^◌, ◌<◌, Bool, true, false, eqb, cond, [], FitsSigned, refl, ap, ◌∙◌, arith}
use Rattle.std.specs.Int.{w8, cast_signed, cast_unsigned}
use Rattle.std.proofs.lemmas.Int.{to_z-of_z}
use Rattle.byteorder.specs.Numbers.{little_number-reads_back}
use Rattle.pvclock_page.specs.declared.page.Page.{Page}
use Rattle.clk_units.specs.Bits.{bit_value}
use Rattle.pvclock_page.specs.Words.{scale_word, mul_in, shift_in, flags_in, enabled_in, words_of, page_of}
use Rattle.pvclock_page.specs.Guest.{guest_bytes, IsGuestPage}

-- each field reads as it was written
pub IsGuestPage-guest_bytes : (page : Page) → page.version < 2 ^ 32 → page.tsc_timestamp < 2 ^ 64 → page.system_time < 2 ^ 64 → page.mul < 2 ^ 32
    → FitsSigned w8 page.shift → IsGuestPage (guest_bytes page) page
IsGuestPage-guest_bytes page version timestamp time mul shift = record {
  version = little_number-reads_back 4 page.version [] (omega arith);
  pad = refl;
  tsc_timestamp = little_number-reads_back 8 page.tsc_timestamp [] (omega arith);
  system_time = little_number-reads_back 8 page.system_time [] (omega arith);
  tsc_to_system_mul = little_number-reads_back 4 page.mul [] (omega arith);
  tsc_shift = to_z-of_z w8 page.shift shift;
  flags = refl;
  rest = refl;
}

-- a shift has 8 bits
cast_unsigned-below : (shift : ℤ) → FitsSigned w8 shift → cast_unsigned w8 shift < 2 ^ 8
cast_unsigned-below (pos n) fits = omega (arith, fits.sfits)
cast_unsigned-below (negsuc n) fits = omega arith

-- the highest bit of a scale word
highest_bit : (enabled : Bool) → bit_value enabled 48 ≡ cond enabled 1 0 * 2 ^ 48
highest_bit true = refl
highest_bit false = refl

-- the scale word alone gives its multiplier back ..
pub mul_in-scale_word : (mul : ℕ) (shift : ℤ) (flags : ℕ) (enabled : Bool) → mul < 2 ^ 32 → mul_in (scale_word mul shift flags enabled) ≡ mul
mul_in-scale_word mul shift flags enabled small = rw (highest_bit enabled) (lowest mul (cast_unsigned w8 shift) flags (cond enabled 1 0) small)
  where
    lowest : (m s f e : ℕ) → m < 2 ^ 32 → (m + s * 2 ^ 32 + f * 2 ^ 40 + e * 2 ^ 48) % 2 ^ 32 ≡ m
    lowest m s f e h = omega arith

-- .. its shift ..
pub shift_in-scale_word : (mul : ℕ) (shift : ℤ) (flags : ℕ) (enabled : Bool) → mul < 2 ^ 32 → FitsSigned w8 shift
    → shift_in (scale_word mul shift flags enabled) ≡ shift
shift_in-scale_word mul shift flags enabled small fits =
    rw (highest_bit enabled)
    (ap (cast_signed w8) (second mul (cast_unsigned w8 shift) flags (cond enabled 1 0) small (cast_unsigned-below shift fits)) ∙ to_z-of_z w8 shift fits)
  where
    second : (m s f e : ℕ) → m < 2 ^ 32 → s < 2 ^ 8 → (m + s * 2 ^ 32 + f * 2 ^ 40 + e * 2 ^ 48) / 2 ^ 32 % 2 ^ 8 ≡ s
    second m s f e h g = omega arith

-- .. its flags ..
pub flags_in-scale_word : (mul : ℕ) (shift : ℤ) (flags : ℕ) (enabled : Bool) → mul < 2 ^ 32 → FitsSigned w8 shift → flags < 2 ^ 8
    → flags_in (scale_word mul shift flags enabled) ≡ flags
flags_in-scale_word mul shift flags enabled small fits few =
    rw (highest_bit enabled) (third mul (cast_unsigned w8 shift) flags (cond enabled 1 0) small (cast_unsigned-below shift fits) few)
  where
    third : (m s f e : ℕ) → m < 2 ^ 32 → s < 2 ^ 8 → f < 2 ^ 8 → (m + s * 2 ^ 32 + f * 2 ^ 40 + e * 2 ^ 48) / 2 ^ 40 % 2 ^ 8 ≡ f
    third m s f e h g k = omega arith

-- the highest field of four
highest : (m s f e : ℕ) → m < 2 ^ 32 → s < 2 ^ 8 → f < 2 ^ 8 → e < 2 → (m + s * 2 ^ 32 + f * 2 ^ 40 + e * 2 ^ 48) / 2 ^ 48 % 2 ≡ e
highest m s f e h g k l = omega arith

-- .. and whether the page is enabled
pub enabled_in-scale_word : (mul : ℕ) (shift : ℤ) (flags : ℕ) (enabled : Bool) → mul < 2 ^ 32 → FitsSigned w8 shift → flags < 2 ^ 8
    → enabled_in (scale_word mul shift flags enabled) ≡ enabled
enabled_in-scale_word mul shift flags true small fits few =
    ap (λ (n : ℕ). eqb n 1) (highest mul (cast_unsigned w8 shift) flags 1 small (cast_unsigned-below shift fits) few (omega arith))
enabled_in-scale_word mul shift flags false small fits few =
    ap (λ (n : ℕ). eqb n 1) (highest mul (cast_unsigned w8 shift) flags 0 small (cast_unsigned-below shift fits) few (omega arith))

-- the words of a page give it back
pub page_of-words_of : (page : Page) → page.mul < 2 ^ 32 → FitsSigned w8 page.shift → page.flags < 2 ^ 8 → page_of (words_of page) ≡ page
page_of-words_of page small fits few =
    rebuilt page _ _ _ _
    (mul_in-scale_word page.mul page.shift page.flags page.enabled small)
    (shift_in-scale_word page.mul page.shift page.flags page.enabled small fits)
    (flags_in-scale_word page.mul page.shift page.flags page.enabled small fits few)
    (enabled_in-scale_word page.mul page.shift page.flags page.enabled small fits few)
  where
    rebuilt : (page : Page) (mul : ℕ) (shift : ℤ) (flags : ℕ) (enabled : Bool) → mul ≡ page.mul → shift ≡ page.shift → flags ≡ page.flags
        → enabled ≡ page.enabled
        → record page { mul = mul; shift = shift; flags = flags; enabled = enabled } ≡ page
    rebuilt page mul shift flags enabled a b c d = rw (a, b, c, d) refl
