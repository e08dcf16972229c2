-- The laws of each code: what is written is read as it was, and what is read is written as it is.
use Rattle.std.proofs.Common.{◌≡◌, ℕ, zero, suc, ℤ, ◌+◌, ◌-◌, ◌*◌, ◌/◌, ◌%◌, ◌^◌, ◌<◌, ◌≤◌, Bool, true, false, ltb, eqb, List, [], ◌∷◌, ◌++◌, length}
use Rattle.std.proofs.Common.{take, drop, get_or, replicate, refl, ap, sym, ◌∙◌, arith}
use Rattle.std.proofs.lemmas.Bool.{lt-ltb, ltb-true, eqb-true, eq-eqb, and_from, and_parts}
use Rattle.std.proofs.lemmas.Int.{of_z-to_z, to_z-of_z}
use Rattle.std.proofs.lemmas.List.{length-append, length-drop, length-take-le, get_or-take, get_or-drop, ext_get_or, drop_more}
use Rattle.std.proofs.Math.Nat.{div-div-eq-div-mul, div-one, pow-suc}
use Rattle.std.specs.Int.{w8, byte_at as byte_of, bytes_low_first, cast_signed, cast_unsigned}
use Rattle.std.specs.Int.RustNames.{FitsSigned}
use Rattle.byteorder.specs.Endian.{little_from, little_number, little_bytes}
use Rattle.byteorder.specs.Numbers.{length-bytes_low_first, little_number-reads_back}
use Rattle.clk_units.specs.Bits.{bit_value}
use Rattle.byte_table.specs.Codes.{number_at, number_bytes, Code, number, byte, signed_byte, word, one_byte, flag, flags_of, flags}
use Rattle.byte_table.specs.Codes.{both, row_bytes, row_value, row_spelled, rows}
use Rattle.byte_table.proofs.FoldLaws.{AreBytes, next, split, take-more}
use Rattle.byte_table.proofs.Bits.{byte_with, HasBits-byte_with, byte_with-bits}

-- a value that is written is read as it was
pub record IsWritten {A : Type 0} (c : Code A) (x : A) : Type 0 where
  pub length : length (c.bytes x) ≡ c.size
  pub back : (place : ℕ) (bytes rest : List ℕ) → drop place bytes ≡ c.bytes x ++ rest → c.value place bytes ≡ x
  pub spelled : (place : ℕ) (bytes rest : List ℕ) → drop place bytes ≡ c.bytes x ++ rest → c.spelled place bytes ≡ true

-- bytes that are read are those that are written
pub record IsCode {A : Type 0} (c : Code A) : Type 0 where
  pub same : (place : ℕ) (bytes : List ℕ) → AreBytes bytes → place + c.size ≤ length bytes → c.spelled place bytes ≡ true
      → c.bytes (c.value place bytes) ≡ take c.size (drop place bytes)

-- numbers
pub number_at-is : (n x place : ℕ) (bytes rest : List ℕ) → x < 256 ^ n → drop place bytes ≡ number_bytes n x ++ rest → number_at n place bytes ≡ x
unfolding number_at number_bytes
number_at-is n x place bytes rest fits e = ap (λ (xs : List ℕ). little_number n xs) e ∙ little_number-reads_back n x rest fits

pub length-number : (n x : ℕ) → length (number_bytes n x) ≡ n
unfolding number_bytes
length-number n x = length-bytes_low_first 0 n x

pub number-written : (n x : ℕ) → x < 256 ^ n → IsWritten (number n) x
number-written n x fits = record {
  length = length-number n x;
  back = λ place bytes rest e. number_at-is n x place bytes rest fits e;
  spelled = λ place bytes rest e. refl;
}

get_or-bytes_low_first : (n j i x : ℕ) → i < n → get_or (bytes_low_first j n x) i 0 ≡ byte_of (j + i) x
get_or-bytes_low_first zero j i x h = absurd (omega arith)
get_or-bytes_low_first (suc n) j zero x h = ap (λ (k : ℕ). byte_of k x) (omega arith)
get_or-bytes_low_first (suc n) j (suc i) x h = get_or-bytes_low_first n (suc j) i x (omega arith) ∙ ap (λ (k : ℕ). byte_of k x) (omega arith)

byte_of-pow : (k x : ℕ) → byte_of k x ≡ x / 256 ^ k % 256
byte_of-pow zero x = ap (λ (y : ℕ). y % 256) (sym (div-one x))
byte_of-pow (suc k) x = refl

byte_of-after : (i b y : ℕ) → b < 256 → byte_of (suc i) (b + 256 * y) ≡ byte_of i y
byte_of-after i b y small =
    let shift : (b + 256 * y) / 256 ^ suc i ≡ (b + 256 * y) / 256 / 256 ^ i =
    ap (λ (m : ℕ). (b + 256 * y) / m) (pow-suc 256 i ∙ omega arith) ∙ sym (div-div-eq-div-mul (b + 256 * y) 256 (256 ^ i)) in
    let less : (b + 256 * y) / 256 ≡ y = omega arith in
    byte_of-pow (suc i) (b + 256 * y) ∙ ap (λ (m : ℕ). m % 256) (shift ∙ ap (λ (m : ℕ). m / 256 ^ i) less) ∙ sym (byte_of-pow i y)

byte_of-little_from : (n k i : ℕ) (xs : List ℕ) → AreBytes xs → i < n → byte_of i (little_from k n xs) ≡ get_or xs (k + i) 0
byte_of-little_from zero k i xs small h = absurd (omega arith)
byte_of-little_from (suc n) k zero xs small h =
    let first = small k in
    let low : (get_or xs k 0 + 256 * little_from (suc k) n xs) % 256 ≡ get_or xs k 0 = omega arith in
    low ∙ ap (λ (m : ℕ). get_or xs m 0) (omega arith)
byte_of-little_from (suc n) k (suc i) xs small h =
    byte_of-after i (get_or xs k 0) (little_from (suc k) n xs) (small k) ∙ byte_of-little_from n (suc k) i xs small (omega arith)
    ∙ ap (λ (m : ℕ). get_or xs m 0) (omega arith)

little-same : (n : ℕ) (bytes : List ℕ) → AreBytes bytes → n ≤ length bytes → little_bytes n (little_number n bytes) ≡ take n bytes
little-same n bytes small there =
    ext_get_or 0 (little_bytes n (little_number n bytes)) (take n bytes)
    (length-bytes_low_first 0 n (little_number n bytes) ∙ sym (length-take-le n bytes there))
    (λ (i : ℕ) (h : i < length (little_bytes n (little_number n bytes))).
    let less : i < n = omega (arith, length-bytes_low_first 0 n (little_number n bytes)) in
    get_or-bytes_low_first n 0 i (little_number n bytes) less ∙ ap (λ (k : ℕ). byte_of k (little_number n bytes)) (omega arith)
    ∙ byte_of-little_from n 0 i bytes small less ∙ ap (λ (k : ℕ). get_or bytes k 0) (omega arith) ∙ sym (get_or-take n bytes i 0 less))

pub number-same : (n place : ℕ) (bytes : List ℕ) → AreBytes bytes → place + n ≤ length bytes
    → number_bytes n (number_at n place bytes) ≡ take n (drop place bytes)
unfolding number_at number_bytes
number-same n place bytes small there =
    little-same n (drop place bytes) (λ (i : ℕ). rw get_or-drop (small (place + i))) (omega (arith, there, length-drop place bytes))

pub number-code : (n : ℕ) → IsCode (number n)
number-code n = record { same = λ place bytes small there spelled. number-same n place bytes small there }

-- a word
pub word-written : (n x : ℕ) → x < 256 ^ n → IsWritten (word n x) tt
word-written n x fits = record {
  length = length-number n x;
  back = λ place bytes rest e. refl;
  spelled = λ place bytes rest e. eq-eqb (number_at n place bytes) x (number_at-is n x place bytes rest fits e);
}

pub word-code : (n x : ℕ) → IsCode (word n x)
word-code n x = record {
  same = λ place bytes small there spelled.
      ap (λ (y : ℕ). number_bytes n y) (sym (eqb-true (number_at n place bytes) x spelled)) ∙ number-same n place bytes small there;
}

-- a byte
byte-is : (place x : ℕ) (bytes rest : List ℕ) → drop place bytes ≡ (x ∷ []) ++ rest → get_or bytes place 0 ≡ x
byte-is place x bytes rest e =
    let at : place ≡ place + 0 = omega arith in
    ap (λ (k : ℕ). get_or bytes k 0) at ∙ sym (get_or-drop place bytes 0 0) ∙ ap (λ (xs : List ℕ). get_or xs 0 0) e

byte-same : (place : ℕ) (bytes : List ℕ) → place + 1 ≤ length bytes → get_or bytes place 0 ∷ [] ≡ take 1 (drop place bytes)
byte-same place bytes there = ap (λ (xs : List ℕ). take 1 xs) (sym (drop_more bytes place 0 (omega (arith, there))))

pub byte-written : (x : ℕ) → IsWritten byte x
byte-written x = record {
  length = refl;
  back = λ place bytes rest e. byte-is place x bytes rest e;
  spelled = λ place bytes rest e. refl;
}

pub byte-code : IsCode byte
byte-code = record { same = λ place bytes small there spelled. byte-same place bytes there }

-- a signed byte
pub signed_byte-written : (x : ℤ) → FitsSigned w8 x → IsWritten signed_byte x
signed_byte-written x fits = record {
  length = refl;
  back = λ place bytes rest e. ap (λ (y : ℕ). cast_signed w8 y) (byte-is place (cast_unsigned w8 x) bytes rest e) ∙ to_z-of_z w8 x fits;
  spelled = λ place bytes rest e. refl;
}

pub signed_byte-code : IsCode signed_byte
signed_byte-code = record {
  same = λ place bytes small there spelled.
      ap (λ (y : ℕ). y ∷ []) (of_z-to_z w8 (get_or bytes place 0) (small place)) ∙ byte-same place bytes there;
}

-- one of n values
pub choice-written : {A : Type 0} (n : ℕ) (number_from : A → ℕ) (of_number : ℕ → A) (x : A) → number_from x < n → of_number (number_from x) ≡ x
    → IsWritten (one_byte number_from of_number (λ y. ltb y n)) x
choice-written n number_from of_number x less is = record {
  length = refl;
  back = λ place bytes rest e. ap of_number (byte-is place (number_from x) bytes rest e) ∙ is;
  spelled = λ place bytes rest e. ap (λ (y : ℕ). ltb y n) (byte-is place (number_from x) bytes rest e) ∙ lt-ltb (number_from x) n less;
}

pub choice-code : {A : Type 0} (n : ℕ) (number_from : A → ℕ) (of_number : ℕ → A) → ((y : ℕ) → y < n → number_from (of_number y) ≡ y)
    → IsCode (one_byte number_from of_number (λ y. ltb y n))
choice-code n number_from of_number is = record {
  same = λ place bytes small there spelled.
      ap (λ (y : ℕ). y ∷ []) (is (get_or bytes place 0) (ltb-true (get_or bytes place 0) n spelled)) ∙ byte-same place bytes there;
}

-- a flag
flag-below : (b : Bool) → ltb (bit_value b 0) 2 ≡ true
flag-below false = refl
flag-below true = refl

flag-test : (b : Bool) → eqb (bit_value b 0) 1 ≡ b
flag-test false = refl
flag-test true = refl

flag-again : (y : ℕ) → y < 2 → bit_value (eqb y 1) 0 ≡ y
flag-again zero h = refl
flag-again (suc zero) h = refl
flag-again (suc (suc y)) h = absurd (omega arith)

pub flag-written : (b : Bool) → IsWritten flag b
flag-written b = record {
  length = refl;
  back = λ place bytes rest e. ap (λ (y : ℕ). eqb y 1) (byte-is place (bit_value b 0) bytes rest e) ∙ flag-test b;
  spelled = λ place bytes rest e. ap (λ (y : ℕ). ltb y 2) (byte-is place (bit_value b 0) bytes rest e) ∙ flag-below b;
}

pub flag-code : IsCode flag
flag-code = record {
  same = λ place bytes small there spelled.
      ap (λ (y : ℕ). y ∷ []) (flag-again (get_or bytes place 0) (ltb-true (get_or bytes place 0) 2 spelled)) ∙ byte-same place bytes there;
}

-- eight flags
pub flags-written : (b0 b1 b2 b3 b4 b5 b6 b7 : Bool) → IsWritten flags (b0 ∷ b1 ∷ b2 ∷ b3 ∷ b4 ∷ b5 ∷ b6 ∷ b7 ∷ [])
flags-written b0 b1 b2 b3 b4 b5 b6 b7 =
    let h = HasBits-byte_with b0 b1 b2 b3 b4 b5 b6 b7 in
    record {
      length = refl;
      back = λ place bytes rest e.
          ap (λ (y : ℕ). flags_of y) (byte-is place (byte_with b0 b1 b2 b3 b4 b5 b6 b7) bytes rest e)
          ∙ (λ i. h.bit_0 i ∷ h.bit_1 i ∷ h.bit_2 i ∷ h.bit_3 i ∷ h.bit_4 i ∷ h.bit_5 i ∷ h.bit_6 i ∷ h.bit_7 i ∷ []);
      spelled = λ place bytes rest e. refl;
    }

pub flags-code : IsCode flags
flags-code = record {
  same = λ place bytes small there spelled.
      ap (λ (y : ℕ). y ∷ []) (byte_with-bits (get_or bytes place 0) (small place)) ∙ byte-same place bytes there;
}

-- two values
pub both-written : {A C : Type 0} (a : Code A) (c : Code C) (x : A × C) → IsWritten a x.0 → IsWritten c x.1 → IsWritten (both a c) x
both-written a c x wa wc = record {
  length = length-append (a.bytes x.0) (c.bytes x.1) ∙ (λ i. wa.length i + wc.length i);
  back = λ place bytes rest e.
      let first = split (drop place bytes) (a.bytes x.0) (c.bytes x.1) rest e in
      let later = next place a.size bytes (a.bytes x.0) (c.bytes x.1 ++ rest) wa.length first in
      λ i. (wa.back place bytes (c.bytes x.1 ++ rest) first i, wc.back (place + a.size) bytes rest later i);
  spelled = λ place bytes rest e.
      let first = split (drop place bytes) (a.bytes x.0) (c.bytes x.1) rest e in
      let later = next place a.size bytes (a.bytes x.0) (c.bytes x.1 ++ rest) wa.length first in
      and_from _ _ (wa.spelled place bytes (c.bytes x.1 ++ rest) first) (wc.spelled (place + a.size) bytes rest later);
}

pub both-code : {A C : Type 0} (a : Code A) (c : Code C) → IsCode a → IsCode c → IsCode (both a c)
both-code a c la lc = record {
  same = λ place bytes small there spelled.
      let parts = and_parts (a.spelled place bytes) (c.spelled (place + a.size) bytes) spelled in
      (λ i. la.same place bytes small (omega (arith, there)) parts.0 i ++ lc.same (place + a.size) bytes small (omega (arith, there)) parts.1 i)
      ∙ take-more place a.size c.size bytes;
}

-- the first n values of a list
abbrev pub AllWritten : {A : Type 0} → Code A → ℕ → List A → Type 0
AllWritten c zero xs = Unit {0}
AllWritten c (suc n) [] = ⊥
AllWritten c (suc n) (x ∷ xs) = IsWritten c x × AllWritten c n xs

pub all-written : {A : Type 0} (c : Code A) (d : A) (n : ℕ) (xs : List A) → n ≤ length xs → ((k : ℕ) → k < n → IsWritten c (get_or xs k d)) → AllWritten c n xs
all-written c d zero xs le each = tt
all-written c d (suc n) [] le each = absurd (omega (arith, le))
all-written c d (suc n) (x ∷ xs) le each =
    (each 0 (omega arith), all-written c d n xs (omega (arith, le)) (λ (k : ℕ) (h : k < n). each (suc k) (omega arith)))

pub record IsRow {A : Type 0} (c : Code A) (n : ℕ) (xs : List A) : Type 0 where
  pub length : length (row_bytes c n xs) ≡ c.size * n
  pub back : (place : ℕ) (bytes rest : List ℕ) → drop place bytes ≡ row_bytes c n xs ++ rest → row_value c n place bytes ++ drop n xs ≡ xs
  pub spelled : (place : ℕ) (bytes rest : List ℕ) → drop place bytes ≡ row_bytes c n xs ++ rest → row_spelled c n place bytes ≡ true

pub row-is : {A : Type 0} (c : Code A) (n : ℕ) (xs : List A) → AllWritten c n xs → IsRow c n xs
unfolding row_bytes row_value row_spelled
row-is c zero xs w = record { length = omega arith; back = λ place bytes rest e. refl; spelled = λ place bytes rest e. refl }
row-is c (suc n) [] w = absurd w
row-is {A = A} c (suc n) (x ∷ xs) w =
    let ih = row-is c n xs w.1 in
    let one = w.0.length in
    let rest = ih.length in
    let first = λ (place : ℕ) (bytes rest : List ℕ) (e : drop place bytes ≡ c.bytes x ++ row_bytes c n xs ++ rest).
    split (drop place bytes) (c.bytes x) (row_bytes c n xs) rest e in
    let later = λ (place : ℕ) (bytes rest : List ℕ) (e : drop place bytes ≡ c.bytes x ++ row_bytes c n xs ++ rest).
    next place c.size bytes (c.bytes x) (row_bytes c n xs ++ rest) w.0.length (first place bytes rest e) in
    record {
      length = length-append (c.bytes x) (row_bytes c n xs) ∙ omega (arith, one, rest);
      back = λ place bytes rest e. λ i.
          w.0.back place bytes (row_bytes c n xs ++ rest) (first place bytes rest e) i
          ∷ ih.back (place + c.size) bytes rest (later place bytes rest e) i;
      spelled = λ place bytes rest e.
          and_from _ _ (w.0.spelled place bytes (row_bytes c n xs ++ rest) (first place bytes rest e))
          (ih.spelled (place + c.size) bytes rest (later place bytes rest e));
    }

pub row-same : {A : Type 0} (c : Code A) → IsCode c → (n place : ℕ) (bytes : List ℕ) (others : List A) → AreBytes bytes → place + c.size * n ≤ length bytes
    → row_spelled c n place bytes ≡ true → row_bytes c n (row_value c n place bytes ++ others) ≡ take (c.size * n) (drop place bytes)
unfolding row_bytes row_value row_spelled
row-same c law zero place bytes others small there spelled = let none : 0 ≡ c.size * 0 = omega arith in ap (λ (k : ℕ). take k (drop place bytes)) none
row-same c law (suc n) place bytes others small there spelled =
    let parts = and_parts (c.spelled place bytes) (row_spelled c n (place + c.size) bytes) spelled in
    let all : c.size + c.size * n ≡ c.size * suc n = omega arith in
    (λ i. law.same place bytes small (omega (arith, there)) parts.0 i
    ++ row-same c law n (place + c.size) bytes others small (omega (arith, there)) parts.1 i)
    ∙ take-more place c.size (c.size * n) bytes ∙ ap (λ (k : ℕ). take k (drop place bytes)) all

pub rows-written : {A : Type 0} (n all : ℕ) (c : Code A) (blank : A) (xs : List A) → AllWritten c n xs → drop n xs ≡ replicate (all - n) blank
    → IsWritten (rows n all c blank) xs
unfolding rows
rows-written n all c blank xs w others =
    let r = row-is c n xs w in
    record {
      length = r.length;
      back = λ place bytes rest e. (λ i. row_value c n place bytes ++ sym others i) ∙ r.back place bytes rest e;
      spelled = r.spelled;
    }

pub rows-code : {A : Type 0} (n all : ℕ) (c : Code A) (blank : A) → IsCode c → IsCode (rows n all c blank)
unfolding rows
rows-code n all c blank law = record {
  same = λ place bytes small there spelled. row-same c law n place bytes (replicate (all - n) blank) small there spelled;
}

pub row_spelled-each : {A : Type 0} (c : Code A) (bytes : List ℕ) → ((place : ℕ) → c.spelled place bytes ≡ true) → (n place : ℕ)
    → row_spelled c n place bytes ≡ true
unfolding row_spelled
row_spelled-each c bytes each zero place = refl
row_spelled-each c bytes each (suc n) place = and_from _ _ (each place) (row_spelled-each c bytes each n (place + c.size))

-- a row of bytes is written as it is
pub row_bytes-byte : (n : ℕ) (xs : List ℕ) → length xs ≡ n → row_bytes byte n xs ≡ xs
unfolding row_bytes
row_bytes-byte zero [] len = refl
row_bytes-byte zero (x ∷ xs) len = absurd (omega (arith, len))
row_bytes-byte (suc n) [] len = refl
row_bytes-byte (suc n) (x ∷ xs) len = ap (λ (ys : List ℕ). x ∷ ys) (row_bytes-byte n xs (omega (arith, len)))
