-- A list of fields, in the order of their bytes (own): how a value is written, how bytes are read,
-- and the first fault, each a fold over the list.
use Rattle.std.specs.Prelude.{
  ℕ,
  zero,
  suc,
  ◌+◌,
  slice_index_or,
  List,
  [],
  ◌∷◌,
  ◌++◌,
  Option,
  None,
}
use Rattle.std.specs.Option.{option_or}

-- a field of a part P of a whole B, with faults of F: its size; its bytes in a P; a P with what is
-- at a place of bytes; that as it would be written; the value of one P put into another; its fault
-- at a place of bytes
pub record Field (F B P : Type 0) : Type 0 where
  pub size : ℕ
  pub get : P → List ℕ
  pub put : ℕ → List ℕ → P → P
  pub again : ℕ → List ℕ → List ℕ
  pub move : P → P → P
  pub fault : B → P → ℕ → List ℕ → Option F

-- how many bytes there are
abbrev pub size_of : {F B P : Type 0} → List (Field F B P) → ℕ
size_of [] = 0
size_of (f ∷ fs) = f.size + size_of fs

-- the bytes of a value
abbrev pub write : {F B P : Type 0} → List (Field F B P) → P → List ℕ
write [] p = []
write (f ∷ fs) p = f.get p ++ write fs p

-- the value whose bytes begin at a place, put into p
abbrev pub read : {F B P : Type 0} → List (Field F B P) → ℕ → List ℕ → P → P
read [] place bytes p = p
read (f ∷ fs) place bytes p = read fs (place + f.size) bytes (f.put place bytes p)

-- the first fault of p, whose bytes begin at a place
abbrev pub fault_in : {F B P : Type 0} → List (Field F B P) → B → P → ℕ → List ℕ → Option F
fault_in [] b p place bytes = None
fault_in (f ∷ fs) b p place bytes =
    option_or (f.fault b p place bytes) (fault_in fs b p (place + f.size) bytes)

-- what is at a place, as it would be written
abbrev pub rewrite_in : {F B P : Type 0} → List (Field F B P) → ℕ → List ℕ → List ℕ
rewrite_in [] place bytes = []
rewrite_in (f ∷ fs) place bytes = f.again place bytes ++ rewrite_in fs (place + f.size) bytes

-- all fields of the first put into the second
abbrev pub moved : {F B P : Type 0} → List (Field F B P) → P → P → P
moved [] p q = q
moved (f ∷ fs) p q = moved fs p (f.move p q)

-- n blocks from k on: block k is item k of a list, by the fields of k. Their size ..
abbrev pub size_below : {F B T : Type 0} → (ℕ → List (Field F B T)) → ℕ → ℕ → ℕ
size_below fields k zero = 0
size_below fields k (suc n) = size_of (fields k) + size_below fields (suc k) n

-- .. their bytes ..
abbrev pub write_below : {F B T : Type 0} → (ℕ → List (Field F B T)) → T → List T → ℕ → ℕ
    → List ℕ
write_below fields blank ts k zero = []
write_below fields blank ts k (suc n) =
    write (fields k) (slice_index_or ts k blank) ++ write_below fields blank ts (suc k) n

-- .. the items that bytes are, each read into the blank item ..
abbrev pub read_below : {F B T : Type 0} → (ℕ → List (Field F B T)) → T → ℕ → ℕ → ℕ → List ℕ
    → List T
read_below fields blank k zero place bytes = []
read_below fields blank k (suc n) place bytes =
    read (fields k) place bytes blank
    ∷ read_below fields blank (suc k) n (place + size_of (fields k)) bytes

-- .. and their first fault
abbrev pub fault_below : {F B T : Type 0} → (ℕ → List (Field F B T)) → T → B → List T → ℕ → ℕ
    → ℕ → List ℕ → Option F
fault_below fields blank b ts k zero place bytes = None
fault_below fields blank b ts k (suc n) place bytes =
    option_or (fault_in (fields k) b (slice_index_or ts k blank) place bytes)
    (fault_below fields blank b ts (suc k) n (place + size_of (fields k)) bytes)
