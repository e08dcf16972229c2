-- The round trip of any list of fields, by a law for each field.
use Rattle.std.proofs.Common.{◌≡◌, ℕ, zero, suc, ◌+◌, ◌-◌, ◌<◌, ◌≤◌, List, [], ◌∷◌, ◌++◌, length, take, drop, get_or, Option, Some, None}
use Rattle.std.proofs.Common.{refl, ap, sym, ◌∙◌, arith}
use Rattle.std.proofs.lemmas.List.{append_assoc, take_all, length-append, length-drop, drop-append-le, drop_all, drop-drop}
use Rattle.std.specs.Option.{option_or}
use Rattle.byte_table.specs.Fold.{Field, size_of, write, read, rewrite_in, moved, fault_in}

-- a law, and those of the fields that follow
infixr 40 ◌⨾◌
abbrev pub ◌⨾◌ : {A B : Type 0} → A → B → A × B
◌⨾◌ a b = (a, b)

-- each number is one of a byte
abbrev pub AreBytes : List ℕ → Type 0
AreBytes bytes = (i : ℕ) → get_or bytes i 0 < 256

-- what follows a first part of n
pub after : {A : Type 0} (n : ℕ) (xs ys : List A) → length xs ≡ n → drop n (xs ++ ys) ≡ ys
after {A = A} n xs ys len =
    drop-append-le n xs ys (omega (arith, len)) ∙ ap (λ (zs : List A). zs ++ ys) (drop_all n xs (omega (arith, len)))

pub next : (place n : ℕ) (bytes xs ys : List ℕ) → length xs ≡ n → drop place bytes ≡ xs ++ ys → drop (place + n) bytes ≡ ys
next place n bytes xs ys len e = sym (drop-drop n place bytes) ∙ ap (λ (zs : List ℕ). drop n zs) e ∙ after n xs ys len

pub split : (bytes xs ys zs : List ℕ) → bytes ≡ xs ++ ys ++ zs → bytes ≡ xs ++ (ys ++ zs)
split bytes xs ys zs e = e ∙ append_assoc xs ys zs

-- there is room for a part that is there
pub room : (place n : ℕ) (bytes xs ys : List ℕ) → length xs ≡ n → place ≤ length bytes → drop place bytes ≡ xs ++ ys → place + n ≤ length bytes
room place n bytes xs ys len le e =
    let all : length bytes - place ≡ length xs + length ys = sym (length-drop place bytes) ∙ ap (λ (zs : List ℕ). length zs) e ∙ length-append xs ys in
    omega (arith, all, len, le)

same-take : (m n : ℕ) (xs : List ℕ) → m ≡ n → take m xs ≡ take n xs
same-take m n xs e = ap (λ (k : ℕ). take k xs) e

take-split : (m n : ℕ) (xs : List ℕ) → take m xs ++ take n (drop m xs) ≡ take (m + n) xs
take-split zero n xs = same-take n (zero + n) xs (omega arith)
take-split (suc m) n [] = take_all n [] (omega arith) ∙ sym (take_all (suc m + n) [] (omega arith))
take-split (suc m) n (x ∷ xs) = ap (λ (ys : List ℕ). x ∷ ys) (take-split m n xs) ∙ same-take (suc (m + n)) (suc m + n) (x ∷ xs) (omega arith)

pub take-more : (place m n : ℕ) (bytes : List ℕ) → take m (drop place bytes) ++ take n (drop (place + m) bytes) ≡ take (m + n) (drop place bytes)
take-more place m n bytes =
    ap (λ (xs : List ℕ). take m (drop place bytes) ++ take n xs) (sym (drop-drop m place bytes)) ∙ take-split m n (drop place bytes)

-- a field of p, whose bytes are at a place, is read as it was and has no fault
pub record IsHere {F B P : Type 0} (f : Field F B P) (b : B) (p : P) (bytes : List ℕ) : Type 0 where
  pub size_is : length (f.get p) ≡ f.size
  pub back : (place : ℕ) (rest : List ℕ) (q : P) → drop place bytes ≡ f.get p ++ rest → f.put place bytes q ≡ f.move p q
  pub none : (place : ℕ) (rest : List ℕ) → place ≤ length bytes → drop place bytes ≡ f.get p ++ rest → f.fault b p place bytes ≡ None

abbrev pub AllHere : {F B P : Type 0} → List (Field F B P) → B → P → List ℕ → Type 0
AllHere [] b p bytes = Unit {0}
AllHere (f ∷ fs) b p bytes = IsHere f b p bytes × AllHere fs b p bytes

-- bytes with no fault are wholly there, and spelled as they would be written
pub record IsSpelled {F B P : Type 0} (f : Field F B P) : Type 0 where
  pub spelled : (b : B) (p : P) (place : ℕ) (bytes : List ℕ) → AreBytes bytes → place ≤ length bytes → f.fault b p place bytes ≡ None
      → (place + f.size ≤ length bytes) × (f.again place bytes ≡ take f.size (drop place bytes))

abbrev pub AllSpelled : {F B P : Type 0} → List (Field F B P) → Type 0
AllSpelled [] = Unit {0}
AllSpelled (f ∷ fs) = IsSpelled f × AllSpelled fs

-- all fields of what is read are written as they would be
abbrev pub AllKeep : {F B P : Type 0} → List (Field F B P) → P → ℕ → List ℕ → Type 0
AllKeep [] p place bytes = Unit {0}
AllKeep (f ∷ fs) p place bytes = (f.get p ≡ f.again place bytes) × AllKeep fs p (place + f.size) bytes

pub option_or-none : {F : Type 0} (first later : Option F) → first ≡ None → option_or first later ≡ later
option_or-none None later e = refl
option_or-none (Some fault) later e = cc

pub option_or-both : {F : Type 0} (first later : Option F) → option_or first later ≡ None → (first ≡ None) × (later ≡ None)
option_or-both None later e = (refl, e)
option_or-both (Some fault) later e = cc

pub length-write : {F B P : Type 0} (fs : List (Field F B P)) (b : B) (p : P) (bytes : List ℕ) → AllHere fs b p bytes → length (write fs p) ≡ size_of fs
length-write [] b p bytes here = refl
length-write (f ∷ fs) b p bytes here = length-append (f.get p) (write fs p) ∙ omega (arith, here.0.size_is, length-write fs b p bytes here.1)

-- what is written is read as it was
pub read-write : {F B P : Type 0} (fs : List (Field F B P)) (b : B) (p q : P) (bytes : List ℕ) → AllHere fs b p bytes → (place : ℕ) (rest : List ℕ)
    → drop place bytes ≡ write fs p ++ rest → read fs place bytes q ≡ moved fs p q
read-write [] b p q bytes here place rest e = refl
read-write {P = P} (f ∷ fs) b p q bytes here place rest e =
    let first = split (drop place bytes) (f.get p) (write fs p) rest e in
    ap (λ (x : P). read fs (place + f.size) bytes x) (here.0.back place (write fs p ++ rest) q first)
    ∙ read-write fs b p (f.move p q) bytes here.1 (place + f.size) rest (next place f.size bytes (f.get p) (write fs p ++ rest) here.0.size_is first)

-- and has no fault
pub fault-write : {F B P : Type 0} (fs : List (Field F B P)) (b : B) (p : P) (bytes : List ℕ) → AllHere fs b p bytes → (place : ℕ) (rest : List ℕ)
    → place ≤ length bytes → drop place bytes ≡ write fs p ++ rest → fault_in fs b p place bytes ≡ None
fault-write [] b p bytes here place rest le e = refl
fault-write (f ∷ fs) b p bytes here place rest le e =
    let first = split (drop place bytes) (f.get p) (write fs p) rest e in
    option_or-none (f.fault b p place bytes) (fault_in fs b p (place + f.size) bytes) (here.0.none place (write fs p ++ rest) le first)
    ∙ fault-write fs b p bytes here.1 (place + f.size) rest (room place f.size bytes (f.get p) (write fs p ++ rest) here.0.size_is le first)
    (next place f.size bytes (f.get p) (write fs p ++ rest) here.0.size_is first)

-- what is read without a fault is spelled as it is written
pub rewritten : {F B P : Type 0} (fs : List (Field F B P)) → AllSpelled fs → (b : B) (p : P) (place : ℕ) (bytes : List ℕ) → AreBytes bytes
    → place ≤ length bytes → fault_in fs b p place bytes ≡ None
    → (place + size_of fs ≤ length bytes) × (rewrite_in fs place bytes ≡ take (size_of fs) (drop place bytes))
rewritten [] all b p place bytes small there none = (omega (arith, there), refl)
rewritten (f ∷ fs) all b p place bytes small there none =
    let parts = option_or-both (f.fault b p place bytes) (fault_in fs b p (place + f.size) bytes) none in
    let first = all.0.spelled b p place bytes small there parts.0 in
    let later = rewritten fs all.1 b p (place + f.size) bytes small first.0 parts.1 in (
      (let end = later.0 in omega (arith, end)),
      (λ i. first.1 i ++ later.1 i) ∙ take-more place f.size (size_of fs) bytes,
    )

pub rewrite_in-keep : {F B P : Type 0} (fs : List (Field F B P)) (p : P) (place : ℕ) (bytes : List ℕ) → AllKeep fs p place bytes
    → write fs p ≡ rewrite_in fs place bytes
rewrite_in-keep [] p place bytes keep = refl
rewrite_in-keep (f ∷ fs) p place bytes keep = λ i. keep.0 i ++ rewrite_in-keep fs p (place + f.size) bytes keep.1 i

-- two lists of fields, one after the other
pub write_append : {F B P : Type 0} (fs gs : List (Field F B P)) (p : P) → write (fs ++ gs) p ≡ write fs p ++ write gs p
write_append [] gs p = refl
write_append (f ∷ fs) gs p = ap (λ (xs : List ℕ). f.get p ++ xs) (write_append fs gs p) ∙ sym (append_assoc (f.get p) (write fs p) (write gs p))

pub option_or-assoc : {F : Type 0} (a b c : Option F) → option_or (option_or a b) c ≡ option_or a (option_or b c)
option_or-assoc None b c = refl
option_or-assoc (Some fault) b c = refl

pub fault_in-append : {F B P : Type 0} (fs gs : List (Field F B P)) (b : B) (p : P) (place : ℕ) (bytes : List ℕ)
    → fault_in (fs ++ gs) b p place bytes ≡ option_or (fault_in fs b p place bytes) (fault_in gs b p (place + size_of fs) bytes)
fault_in-append [] gs b p place bytes = let at : place ≡ place + 0 = omega arith in ap (λ (k : ℕ). fault_in gs b p k bytes) at
fault_in-append {F = F} (f ∷ fs) gs b p place bytes =
    let at : place + f.size + size_of fs ≡ place + (f.size + size_of fs) = omega arith in
    ap (λ (o : Option F). option_or (f.fault b p place bytes) o) (fault_in-append fs gs b p (place + f.size) bytes)
    ∙ sym (option_or-assoc (f.fault b p place bytes) (fault_in fs b p (place + f.size) bytes) (fault_in gs b p (place + f.size + size_of fs) bytes))
    ∙ ap (λ (k : ℕ). option_or (option_or (f.fault b p place bytes) (fault_in fs b p (place + f.size) bytes)) (fault_in gs b p k bytes)) at

pub size_of-append : {F B P : Type 0} (fs gs : List (Field F B P)) → size_of (fs ++ gs) ≡ size_of fs + size_of gs
size_of-append [] gs = omega arith
size_of-append (f ∷ fs) gs = omega (arith, size_of-append fs gs)

-- two lists have no fault
pub fault-parts : {F B P : Type 0} (fs gs : List (Field F B P)) (b : B) (p : P) (place : ℕ) (bytes : List ℕ) → fault_in (fs ++ gs) b p place bytes ≡ None
    → (fault_in fs b p place bytes ≡ None) × (fault_in gs b p (place + size_of fs) bytes ≡ None)
fault-parts fs gs b p place bytes none = option_or-both _ _ (sym (fault_in-append fs gs b p place bytes) ∙ none)

pub all_here-append : {F B P : Type 0} (fs gs : List (Field F B P)) (b : B) (p : P) (bytes : List ℕ) → AllHere fs b p bytes → AllHere gs b p bytes
    → AllHere (fs ++ gs) b p bytes
all_here-append [] gs b p bytes here there = there
all_here-append (f ∷ fs) gs b p bytes here there = (here.0, all_here-append fs gs b p bytes here.1 there)

-- after the bytes of a first list those of a second are written
pub written-then : {F B P : Type 0} (fs gs : List (Field F B P)) (p : P) (old now next : List ℕ) → now ≡ old ++ write fs p → next ≡ now ++ write gs p
    → next ≡ old ++ write (fs ++ gs) p
written-then fs gs p old now next first later =
    later ∙ ap (λ (xs : List ℕ). xs ++ write gs p) first ∙ append_assoc old (write fs p) (write gs p)
    ∙ ap (λ (xs : List ℕ). old ++ xs) (sym (write_append fs gs p))

-- after the bytes of a first list are those of a second
pub next-write : {F B P : Type 0} (fs gs : List (Field F B P)) (b : B) (p : P) (bytes : List ℕ) → AllHere fs b p bytes → (place : ℕ) (rest : List ℕ)
    → drop place bytes ≡ write (fs ++ gs) p ++ rest → drop (place + size_of fs) bytes ≡ write gs p ++ rest
next-write fs gs b p bytes here place rest e =
    next place (size_of fs) bytes (write fs p) (write gs p ++ rest) (length-write fs b p bytes here)
    (e ∙ ap (λ (xs : List ℕ). xs ++ rest) (write_append fs gs p) ∙ append_assoc (write fs p) (write gs p) rest)

pub option_or-end : {F : Type 0} (o : Option F) → option_or o None ≡ o
option_or-end None = refl
option_or-end (Some fault) = refl

-- lists one after the other: what holds of each holds of all
abbrev pub joined : {A : Type 0} → List (List A) → List A
joined [] = []
joined (xs ∷ xss) = xs ++ joined xss

abbrev pub EachHere : {F B P : Type 0} → List (List (Field F B P)) → B → P → List ℕ → Type 0
EachHere [] b p bytes = Unit {0}
EachHere (fs ∷ fss) b p bytes = AllHere fs b p bytes × EachHere fss b p bytes

pub here-joined : {F B P : Type 0} (fss : List (List (Field F B P))) (b : B) (p : P) (bytes : List ℕ) → EachHere fss b p bytes → AllHere (joined fss) b p bytes
here-joined [] b p bytes each = tt
here-joined (fs ∷ fss) b p bytes each = all_here-append fs (joined fss) b p bytes each.0 (here-joined fss b p bytes each.1)
