-- The kinds of fields (own).
use Rattle.std.specs.Prelude.{ℕ, ◌+◌, ◌-◌, nat_lt, Bool, ◌&&◌, if◌then◌else◌, List, [], ◌++◌, length, replicate, Some, None}
use Rattle.byte_table.specs.Codes.{Code}
use Rattle.byte_table.specs.Fold.{
  Field,
  size_below,
  write_below,
  read_below,
  fault_below,
}

-- a value of a code: its two faults, where it is in a P, and its condition. It has the one fault, at
-- the input's length, where it isn't wholly there, and the other, at its place, where it is spelled
-- wrong or its condition fails
unfoldable pub plain : {F B P A : Type 0} → (ℕ → F) → (ℕ → F) → Code A → (P → A) → (A → P → P)
    → (B → P → Bool) → Field F B P
plain short invalid c get put valid = record {
  size = c.size;
  get = λ p. c.bytes (get p);
  put = λ place bytes p. put (c.value place bytes) p;
  again = λ place bytes. c.bytes (c.value place bytes);
  move = λ p q. put (get p) q;
  fault = λ b p place bytes.
      if nat_lt (length bytes) (place + c.size) then Some (short (length bytes))
      else if c.spelled place bytes && valid b p then None
      else Some (invalid place);
}

-- the first n items of a list of `all`, item k by the fields of k; the others are blank
unfoldable pub blocks : {F B P T : Type 0} → ℕ → ℕ → (ℕ → List (Field F B T)) → T → (P → List T)
    → (List T → P → P) → Field F B P
blocks n all fields blank get put = record {
  size = size_below fields 0 n;
  get = λ p. write_below fields blank (get p) 0 n;
  put = λ place bytes p.
      put (read_below fields blank 0 n place bytes ++ replicate (all - n) blank) p;
  again = λ place bytes.
      write_below fields blank
      (read_below fields blank 0 n place bytes ++ replicate (all - n) blank)
      0 n;
  move = λ p q. put (get p) q;
  fault = λ b p place bytes. fault_below fields blank b (get p) 0 n place bytes;
}

-- a value that is written by another field, at a place of its own: here it takes no bytes
unfoldable pub elsewhere : {F B P A : Type 0} → ℕ → Code A → (P → A) → (A → P → P) → Field F B P
elsewhere at c get put = record {
  size = 0;
  get = λ p. [];
  put = λ place bytes p. put (c.value at bytes) p;
  again = λ place bytes. [];
  move = λ p q. put (get p) q;
  fault = λ b p place bytes. None;
}
