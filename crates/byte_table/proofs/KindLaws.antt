-- The laws of each kind of field.
use Rattle.std.proofs.Common.{◌≡◌, ℕ, zero, suc, ◌+◌, ◌-◌, ◌<◌, ◌≤◌, ltb, ⊎_elim, Bool, true, false, cond, ◌&&◌, List, Option, ◌∷◌, ◌++◌, length}
use Rattle.std.proofs.Common.{[], take, drop, get_or, replicate, Some, None, refl, ap, sym, subst, ◌∙◌, arith}
use Rattle.std.proofs.lemmas.Bool.{lt-ltb, le-ltb, and_from, and_parts, cases_lt}
use Rattle.std.proofs.lemmas.List.{length-append, get_or-drop, drop_more, drop-drop}
use Rattle.byte_table.specs.Fold.{Field, size_of, write, read, rewrite_in, moved, fault_in, size_below, write_below, read_below, fault_below}
use Rattle.byte_table.specs.Codes.{Code}
use Rattle.byte_table.specs.Kinds.{plain, blocks, elsewhere}
use Rattle.byte_table.proofs.FoldLaws.{AreBytes, next, split, room, take-more, IsHere, AllHere, IsSpelled, AllSpelled, option_or-none, option_or-both, length-write}
use Rattle.byte_table.proofs.FoldLaws.{read-write, fault-write, rewritten}
use Rattle.byte_table.proofs.CodeLaws.{IsWritten, IsCode, rows-code, number-code, word-code, byte-code, signed_byte-code, flag-code, flags-code, both-code}

-- the fault of one field: short, invalid, or none
abbrev pub one_fault : {F : Type 0} → (ℕ → F) → (ℕ → F) → ℕ → Bool → ℕ → List ℕ → Option F
one_fault short invalid size valid place bytes = cond (ltb (length bytes) (place + size)) (Some (short (length bytes))) (cond valid None (Some (invalid place)))

pub one_fault-short : {F : Type 0} (short invalid : ℕ → F) (size : ℕ) (valid : Bool) (place : ℕ) (bytes : List ℕ) → length bytes < place + size
    → one_fault short invalid size valid place bytes ≡ Some (short (length bytes))
one_fault-short short invalid size valid place bytes less =
    ap (λ (t : Bool). cond t (Some (short (length bytes))) (cond valid None (Some (invalid place)))) (lt-ltb (length bytes) (place + size) less)

pub one_fault-is : {F : Type 0} (short invalid : ℕ → F) (size : ℕ) (valid : Bool) (place : ℕ) (bytes : List ℕ) → place + size ≤ length bytes → (v : Bool)
    → valid ≡ v → one_fault short invalid size valid place bytes ≡ cond v None (Some (invalid place))
one_fault-is short invalid size valid place bytes le v is =
    ap (λ (t : Bool). cond t (Some (short (length bytes))) (cond valid None (Some (invalid place)))) (le-ltb (length bytes) (place + size) le)
    ∙ ap (λ (t : Bool). cond t None (Some (invalid place))) is

some_none : {F : Type 0} {s : F} {R : Type 0} → Some s ≡ None → R
some_none e = cc

pub one_fault-none : {F : Type 0} (short invalid : ℕ → F) (size : ℕ) (valid : Bool) (place : ℕ) (bytes : List ℕ) → one_fault short invalid size valid place bytes ≡ None
    → (place + size ≤ length bytes) × (valid ≡ true)
one_fault-none {F = F} short invalid size valid place bytes e =
    ⊎_elim (λ (less : length bytes < place + size). some_none (sym (one_fault-short short invalid size valid place bytes less) ∙ e))
    (λ (le : place + size ≤ length bytes). (le, passes (invalid place) valid (sym (one_fault-is short invalid size valid place bytes le valid refl) ∙ e)))
    (cases_lt (length bytes) (place + size))
  where
    passes : (s : F) (v : Bool) → cond v None (Some s) ≡ None → v ≡ true
    passes s true e = refl
    passes s false e = some_none e

-- a value
pub plain-here : {F B P A : Type 0} (short invalid : ℕ → F) (c : Code A) (get : P → A) (put : A → P → P) (valid : B → P → Bool) (b : B) (p : P)
    (bytes : List ℕ) → IsWritten c (get p) → valid b p ≡ true → IsHere (plain short invalid c get put valid) b p bytes
unfolding plain
plain-here {A = A} short invalid c get put valid b p bytes w is = record {
  size_is = w.length;
  back = λ place rest q e. ap (λ (x : A). put x q) (w.back place bytes rest e);
  none = λ place rest le e.
      one_fault-is short invalid c.size (c.spelled place bytes && valid b p) place bytes (room place c.size bytes (c.bytes (get p)) rest w.length le e) true
      (and_from _ _ (w.spelled place bytes rest e) is);
}

pub plain-spelled : {F B P A : Type 0} (short invalid : ℕ → F) (c : Code A) (get : P → A) (put : A → P → P) (valid : B → P → Bool) → IsCode c
    → IsSpelled (plain short invalid c get put valid)
unfolding plain
plain-spelled short invalid c get put valid law = record {
  spelled = λ b p place bytes small there none.
      let parts = one_fault-none short invalid c.size (c.spelled place bytes && valid b p) place bytes none in
      let is = and_parts (c.spelled place bytes) (valid b p) parts.1 in
      (parts.0, law.same place bytes small parts.0 is.0);
}

-- a value that another field holds, at a place of its own
pub elsewhere-here : {F B P A : Type 0} (at : ℕ) (c : Code A) (get : P → A) (put : A → P → P) (b : B) (p : P) (bytes : List ℕ) → c.value at bytes ≡ get p
    → IsHere (elsewhere {F = F} {B = B} at c get put) b p bytes
unfolding elsewhere
elsewhere-here {A = A} at c get put b p bytes is = record {
  size_is = refl;
  back = λ place rest q e. ap (λ (x : A). put x q) is;
  none = λ place rest le e. refl;
}

pub elsewhere-spelled : {F B P A : Type 0} (at : ℕ) (c : Code A) (get : P → A) (put : A → P → P) → IsSpelled (elsewhere {F = F} {B = B} at c get put)
unfolding elsewhere
elsewhere-spelled at c get put = record { spelled = λ b p place bytes small there none. (omega (arith, there), refl) }

-- blocks that are written: each is, and the list of its fields covers it
abbrev pub AllBlocks : {F B T : Type 0} → (ℕ → List (Field F B T)) → T → B → List T → List ℕ → ℕ → ℕ → Type 0
AllBlocks fields blank b ts bytes k n = (j : ℕ) → k ≤ j → j < k + n → AllHere (fields j) b (get_or ts j blank) bytes

below-length : {F B T : Type 0} (fields : ℕ → List (Field F B T)) (blank : T) (b : B) (ts : List T) (bytes : List ℕ) (k n : ℕ)
    → AllBlocks fields blank b ts bytes k n → length (write_below fields blank ts k n) ≡ size_below fields k n
below-length fields blank b ts bytes k zero all = refl
below-length {T = T} fields blank b ts bytes k (suc n) all =
    let t : T = get_or ts k blank in
    length-append (write (fields k) t) (write_below fields blank ts (suc k) n)
    ∙ (λ i. length-write (fields k) b t bytes (all k (omega arith) (omega arith)) i
    + below-length fields blank b ts bytes (suc k) n (λ j low high. all j (omega arith) (omega arith)) i)

-- each item is all of it put into the blank one
abbrev pub AreCovered : {F B T : Type 0} → (ℕ → List (Field F B T)) → T → List T → Type 0
AreCovered fields blank ts = (k : ℕ) → k < length ts → moved (fields k) (get_or ts k blank) blank ≡ get_or ts k blank

below-back : {F B T : Type 0} (fields : ℕ → List (Field F B T)) (blank : T) → (b : B) (ts : List T) → AreCovered fields blank ts → (bytes : List ℕ) (k n : ℕ)
    → k + n ≤ length ts → AllBlocks fields blank b ts bytes k n → (place : ℕ) (rest : List ℕ) → drop place bytes ≡ write_below fields blank ts k n ++ rest
    → (read_below fields blank k n place bytes ++ drop (k + n) ts ≡ drop k ts) × (place ≤ length bytes → fault_below fields blank b ts k n place bytes ≡ None)
below-back fields blank b ts covers bytes k zero le all place rest e = let at : k + 0 ≡ k = omega arith in (ap (λ (m : ℕ). drop m ts) at, λ there. refl)
below-back {T = T} fields blank b ts covers bytes k (suc n) le all place rest e =
    let t : T = get_or ts k blank in
    let s : ℕ = size_of (fields k) in
    let here = all k (omega arith) (omega arith) in
    let tail : List ℕ = write_below fields blank ts (suc k) n ++ rest in
    let len = length-write (fields k) b t bytes here in
    let first = split (drop place bytes) (write (fields k) t) (write_below fields blank ts (suc k) n) rest e in
    let later = below-back fields blank b ts covers bytes (suc k) n (omega arith) (λ j low high. all j (omega arith) (omega arith)) (place + s) rest
    (next place s bytes (write (fields k) t) tail len first) in
    let at : k + suc n ≡ suc k + n = omega arith in
    let one : suc k ≡ k + 1 = omega arith in (
      (λ i. (read-write (fields k) b t blank bytes here place tail first ∙ covers k (omega (arith, le))) i
          ∷ (read_below fields blank (suc k) n (place + s) bytes ++ drop (at i) ts))
          ∙ ap (λ (us : List T). t ∷ us) (later.0 ∙ ap (λ (m : ℕ). drop m ts) one) ∙ sym (drop_more ts k blank (omega arith)),
      λ there.
          option_or-none (fault_in (fields k) b t place bytes) (fault_below fields blank b ts (suc k) n (place + s) bytes)
          (fault-write (fields k) b t bytes here place tail there first) ∙ later.1 (room place s bytes (write (fields k) t) tail len there first),
    )

pub blocks-here : {F B P T : Type 0} (n all : ℕ) (fields : ℕ → List (Field F B T)) (blank : T) (get : P → List T) (put : List T → P → P) (b : B) (p : P)
    (bytes : List ℕ) → AreCovered fields blank (get p) → n ≤ length (get p) → AllBlocks fields blank b (get p) bytes 0 n
    → drop n (get p) ≡ replicate (all - n) blank → IsHere (blocks n all fields blank get put) b p bytes
unfolding blocks
blocks-here n all fields blank get put b p bytes covers le each others =
    let room : 0 + n ≤ length (get p) = omega (arith, le) in
    let at : n ≡ 0 + n = omega arith in
    record {
      size_is = below-length fields blank b (get p) bytes 0 n each;
      back = λ place rest q e.
          (λ i. put (read_below fields blank 0 n place bytes ++ (sym others ∙ ap (λ (m : ℕ). drop m (get p)) at) i) q)
          ∙ (λ i. put ((below-back fields blank b (get p) covers bytes 0 n room each place rest e).0 i) q);
      none = λ place rest there e. (below-back fields blank b (get p) covers bytes 0 n room each place rest e).1 there;
    }

-- what is read of a block is written as its bytes are
pub record AreBlocks {F B T : Type 0} (fields : ℕ → List (Field F B T)) (blank : T) : Type 0 where
  pub keeps : (k place : ℕ) (bytes : List ℕ) → write (fields k) (read (fields k) place bytes blank) ≡ rewrite_in (fields k) place bytes
  pub spelled : (k : ℕ) → AllSpelled (fields k)

below-spelled : {F B T : Type 0} (fields : ℕ → List (Field F B T)) (blank : T) → AreBlocks fields blank → (b : B) (ts : List T) (k n place : ℕ) (bytes : List ℕ)
    → AreBytes bytes → place ≤ length bytes → fault_below fields blank b ts k n place bytes ≡ None
    → (place + size_below fields k n ≤ length bytes) × ((us others : List T) → drop k us ≡ read_below fields blank k n place bytes ++ others
    → write_below fields blank us k n ≡ take (size_below fields k n) (drop place bytes))
below-spelled fields blank laws b ts k zero place bytes small there none = (omega (arith, there), λ us others e. refl)
below-spelled {T = T} fields blank laws b ts k (suc n) place bytes small there none =
    let s : ℕ = size_of (fields k) in
    let parts = option_or-both (fault_in (fields k) b (get_or ts k blank) place bytes) (fault_below fields blank b ts (suc k) n (place + s) bytes) none in
    let first = rewritten (fields k) (laws.spelled k) b (get_or ts k blank) place bytes small there parts.0 in
    let later = below-spelled fields blank laws b ts (suc k) n (place + s) bytes small first.0 parts.1 in (
      (let end = later.0 in omega (arith, end)),
      λ us others e.
          let at : k ≡ k + 0 = omega arith in
          let one : suc k ≡ k + 1 = omega arith in
          let item : get_or us k blank ≡ read (fields k) place bytes blank =
          ap (λ (m : ℕ). get_or us m blank) at ∙ sym (get_or-drop k us 0 blank) ∙ ap (λ (xs : List T). get_or xs 0 blank) e in
          let rest : drop (suc k) us ≡ read_below fields blank (suc k) n (place + s) bytes ++ others =
          ap (λ (m : ℕ). drop m us) one ∙ sym (drop-drop 1 k us) ∙ ap (λ (xs : List T). drop 1 xs) e in
          (λ i. write (fields k) (item i) ++ later.1 us others rest i)
          ∙ (λ i. (laws.keeps k place bytes ∙ first.1) i ++ take (size_below fields (suc k) n) (drop (place + s) bytes))
          ∙ take-more place s (size_below fields (suc k) n) bytes,
    )

pub blocks-spelled : {F B P T : Type 0} (n all : ℕ) (fields : ℕ → List (Field F B T)) (blank : T) (get : P → List T) (put : List T → P → P)
    → AreBlocks fields blank → IsSpelled (blocks n all fields blank get put)
unfolding blocks
blocks-spelled n all fields blank get put laws = record {
  spelled = λ b p place bytes small there none.
      let is = below-spelled fields blank laws b (get p) 0 n place bytes small there none in
      (is.0, is.1 (read_below fields blank 0 n place bytes ++ replicate (all - n) blank) (replicate (all - n) blank) refl);
}

-- where blocks have no fault each has none, at its place
none-each : {F B T : Type 0} (fields : ℕ → List (Field F B T)) (blank : T) (b : B) (ts : List T) (k n place : ℕ) (bytes : List ℕ)
    → fault_below fields blank b ts k n place bytes ≡ None → (j : ℕ) → k ≤ j → j < k + n
    → (at : ℕ) × (fault_in (fields j) b (get_or ts j blank) at bytes ≡ None)
none-each fields blank b ts k zero place bytes none j low high = absurd (omega arith)
none-each fields blank b ts k (suc n) place bytes none j low high =
    let parts = option_or-both (fault_in (fields k) b (get_or ts k blank) place bytes)
    (fault_below fields blank b ts (suc k) n (place + size_of (fields k)) bytes) none in
    ⊎_elim (λ (less : k < j). none-each fields blank b ts (suc k) n (place + size_of (fields k)) bytes parts.1 j (omega arith) (omega arith))
    (λ (le : j ≤ k).
    let is : k ≡ j = omega arith in
    subst (λ (m : ℕ). (at : ℕ) × (fault_in (fields m) b (get_or ts m blank) at bytes ≡ None)) is (place, parts.0)) (cases_lt k j)

pub blocks-none : {F B P T : Type 0} (n all : ℕ) (fields : ℕ → List (Field F B T)) (blank : T) (get : P → List T) (put : List T → P → P) (b : B) (p : P)
    (place : ℕ) (bytes : List ℕ) → fault_in (blocks n all fields blank get put ∷ []) b p place bytes ≡ None → (j : ℕ) → j < n
    → (at : ℕ) × (fault_in (fields j) b (get_or (get p) j blank) at bytes ≡ None)
unfolding blocks
blocks-none n all fields blank get put b p place bytes none j less =
    none-each fields blank b (get p) 0 n place bytes (option_or-both (fault_below fields blank b (get p) 0 n place bytes) None none).0 j (omega arith) (omega (arith, less))

-- by these a search finds that all fields of a list are spelled
pub ruleset spells = (plain-spelled, elsewhere-spelled, rows-code, number-code, word-code, byte-code, signed_byte-code, flag-code, flags-code, both-code)
