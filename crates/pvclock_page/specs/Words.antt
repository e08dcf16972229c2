-- A page as five words. Each word alone gives its fields back.
use Rattle.std.specs.Prelude.{ℕ, ℤ, ◌+◌, ◌*◌, ◌/◌, ◌%◌, ◌^◌, Bool, List, []}
use Rattle.std.specs.Prelude.{◌∷◌, slice_index}
use Rattle.std.specs.Int.{w8, cast_unsigned, cast_signed}
use Rattle.clk_units.specs.Bits.{bit, bit_value}
use Rattle.pvclock_page.specs.declared.page.Page.{Page}

-- bits 0 to 31 multiplier, 32 to 39 shift in two's complement, 40 to 47 flags, 48 enabled (own)
abbrev pub scale_word : ℕ → ℤ → ℕ → Bool → ℕ
scale_word mul shift flags enabled =
    mul + cast_unsigned w8 shift * 2 ^ 32 + flags * 2 ^ 40 + bit_value enabled 48

abbrev pub mul_in : ℕ → ℕ
mul_in word = word % 2 ^ 32

abbrev pub shift_in : ℕ → ℤ
shift_in word = cast_signed w8 (word / 2 ^ 32 % 2 ^ 8)

abbrev pub flags_in : ℕ → ℕ
flags_in word = word / 2 ^ 40 % 2 ^ 8

abbrev pub enabled_in : ℕ → Bool
enabled_in word = bit 48 word

-- the words of a page: version, timestamp, system time, scale, offset
abbrev pub words_of : Page → List ℕ
words_of page =
    page.version ∷ page.tsc_timestamp ∷ page.system_time
    ∷ scale_word page.mul page.shift page.flags page.enabled ∷ page.offset ∷ []

-- the page of five words
abbrev pub page_of : List ℕ → Page
page_of words = record {
  version = slice_index words 0;
  tsc_timestamp = slice_index words 1;
  system_time = slice_index words 2;
  mul = mul_in (slice_index words 3);
  shift = shift_in (slice_index words 3);
  flags = flags_in (slice_index words 3);
  offset = slice_index words 4;
  enabled = enabled_in (slice_index words 3);
}
