-- How values are spelled as bytes (own): numbers with their lowest byte first.
use Rattle.std.specs.Prelude.{ℕ, zero, suc, ℤ, ◌+◌, ◌-◌, ◌*◌, ◌==◌, nat_lt, Bool, true, ◌&&◌, List, [], ◌∷◌, ◌++◌, map}
use Rattle.std.specs.Prelude.{drop, slice_index, replicate, ⊤}
use Rattle.std.specs.Int.{w8, cast_signed, cast_unsigned}
use Rattle.byteorder.specs.Endian.{little_number, little_bytes}
use Rattle.clk_units.specs.Bits.{bit, bit_value}

-- the byte at a place; one after the end counts as 0
abbrev pub byte_at : ℕ → List ℕ → ℕ
byte_at place bytes = slice_index bytes place

-- the number in `size` bytes from a place
unfoldable pub number_at : ℕ → ℕ → List ℕ → ℕ
number_at size place bytes = little_number size (drop place bytes)

-- the bytes of a number of `size` bytes
unfoldable pub number_bytes : ℕ → ℕ → List ℕ
number_bytes size x = little_bytes size x

-- a flag: the byte 01
abbrev pub flag_at : ℕ → List ℕ → Bool
flag_at place bytes = byte_at place bytes == 1

-- a flag's byte is 00 or 01
abbrev pub flag_valid : ℕ → List ℕ → Bool
flag_valid place bytes = nat_lt (byte_at place bytes) 2

-- a code of A: how many bytes a value takes; they; the value that is at a place; whether what is
-- there spells one
pub record Code (A : Type 0) : Type 0 where
  pub size : ℕ
  pub bytes : A → List ℕ
  pub value : ℕ → List ℕ → A
  pub spelled : ℕ → List ℕ → Bool

-- a number of n bytes
abbrev pub number : ℕ → Code ℕ
number n = record { size = n; bytes = number_bytes n; value = number_at n; spelled = λ _ _. true }

-- a value in one byte: its byte, the value of a byte, and whether a byte is that of a value
abbrev pub one_byte : {A : Type 0} → (A → ℕ) → (ℕ → A) → (ℕ → Bool) → Code A
one_byte byte_of value_of valid = record {
  size = 1;
  bytes = λ x. byte_of x ∷ [];
  value = λ place bytes. value_of (byte_at place bytes);
  spelled = λ place bytes. valid (byte_at place bytes);
}

-- a number of one byte
abbrev pub byte : Code ℕ
byte = one_byte (λ x. x) (λ x. x) (λ _. true)

-- a signed number of one byte, in two's complement
abbrev pub signed_byte : Code ℤ
signed_byte = one_byte (cast_unsigned w8) (cast_signed w8) (λ _. true)

-- the number x, which has to be there
abbrev pub word : ℕ → ℕ → Code ⊤
word n x = record {
  size = n;
  bytes = λ u. number_bytes n x;
  value = λ place bytes. tt;
  spelled = λ place bytes. number_at n place bytes == x;
}

-- a flag in one byte, 00 or 01
abbrev pub flag : Code Bool
flag = one_byte (λ b. bit_value b 0) (λ x. x == 1) (λ x. nat_lt x 2)

-- the byte of flags, the first of them bit k
abbrev pub flags_byte : ℕ → List Bool → ℕ
flags_byte k [] = 0
flags_byte k (b ∷ bs) = bit_value b k + flags_byte (suc k) bs

-- the eight flags of a byte, bit 0 first
abbrev pub flags_of : ℕ → List Bool
flags_of x = map (λ k. bit k x) (0 ∷ 1 ∷ 2 ∷ 3 ∷ 4 ∷ 5 ∷ 6 ∷ 7 ∷ [])

-- eight flags in a byte
abbrev pub flags : Code (List Bool)
flags = one_byte (flags_byte 0) flags_of (λ _. true)

-- two fields, one after the other
abbrev pub both : {A C : Type 0} → Code A → Code C → Code (A × C)
both a c = record {
  size = a.size + c.size;
  bytes = λ x. a.bytes x.0 ++ c.bytes x.1;
  value = λ place bytes. (a.value place bytes, c.value (place + a.size) bytes);
  spelled = λ place bytes. a.spelled place bytes && c.spelled (place + a.size) bytes;
}

-- the first n values of a list
unfoldable pub row_bytes : {A : Type 0} → Code A → ℕ → List A → List ℕ
row_bytes c (suc n) (x ∷ xs) = c.bytes x ++ row_bytes c n xs
row_bytes c _ _ = []

-- the values of n fields of one kind, one after another from a place on
unfoldable pub row_value : {A : Type 0} → Code A → ℕ → ℕ → List ℕ → List A
row_value c zero place bytes = []
row_value c (suc n) place bytes = c.value place bytes ∷ row_value c n (place + c.size) bytes

-- whether each of n such fields is spelled right
unfoldable pub row_spelled : {A : Type 0} → Code A → ℕ → ℕ → List ℕ → Bool
row_spelled c zero place bytes = true
row_spelled c (suc n) place bytes = c.spelled place bytes && row_spelled c n (place + c.size) bytes

-- the first n values of a list of `all`, one after another; the others are blank
unfoldable pub rows : {A : Type 0} → ℕ → ℕ → Code A → A → Code (List A)
rows n all c blank = record {
  size = c.size * n;
  bytes = row_bytes c n;
  value = λ place bytes. row_value c n place bytes ++ replicate (all - n) blank;
  spelled = row_spelled c n;
}
