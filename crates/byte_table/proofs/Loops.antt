-- Loops over blocks of one size.
use Rattle.std.proofs.Common.{◌≡◌, ℕ, zero, suc, ◌+◌, ◌-◌, ◌*◌, ◌<◌, ◌≤◌, List, [], ◌∷◌, ◌++◌, length, drop, get_or, replicate, append_assoc}
use Rattle.std.proofs.Common.{set, below_more, Option, Some, None, refl, ap, sym, ◌∙◌, arith}
use Rattle.std.proofs.lemmas.List.{append-nil, ext_get_or, length-replicate, get_or-replicate, length-set, length-drop, get_or-drop}
use Rattle.std.proofs.lemmas.List.{get_or-set_same, get_or-set_other}
use Rattle.std.specs.Option.{option_or}
use Rattle.byte_table.specs.Codes.{Code, row_bytes, row_value}
use Rattle.byte_table.specs.Fold.{Field, size_of, write, read, fault_in, write_below, read_below, fault_below, size_below}

-- each block takes s bytes
abbrev pub AreOfSize : {F B T : Type 0} → (ℕ → List (Field F B T)) → ℕ → Type 0
AreOfSize fields s = (k : ℕ) → size_of (fields k) ≡ s

-- one block more is written
pub write-more : {F B T : Type 0} (fields : ℕ → List (Field F B T)) (blank : T) (ts : List T) (k n : ℕ)
    → write_below fields blank ts k (n + 1) ≡ write_below fields blank ts k n ++ write (fields (k + n)) (get_or ts (k + n) blank)
write-more fields blank ts k zero =
    let at : k ≡ k + 0 = omega arith in
    append-nil (write (fields k) (get_or ts k blank)) ∙ ap (λ (m : ℕ). write (fields m) (get_or ts m blank)) at
write-more fields blank ts k (suc n) =
    let at : suc k + n ≡ k + suc n = omega arith in
    let more : suc n + 1 ≡ suc (n + 1) = omega arith in
    ap (λ (m : ℕ). write_below fields blank ts k m) more
    ∙ ap (λ (xs : List ℕ). write (fields k) (get_or ts k blank) ++ xs) (write-more fields blank ts (suc k) n)
    ∙ sym (append_assoc (write (fields k) (get_or ts k blank)) (write_below fields blank ts (suc k) n) _)
    ∙ ap (λ (m : ℕ). write (fields k) (get_or ts k blank) ++ write_below fields blank ts (suc k) n ++ write (fields m) (get_or ts m blank)) at

written-more : {F B T : Type 0} (fields : ℕ → List (Field F B T)) (blank : T) (ts : List T) (n : ℕ) (old now next : List ℕ)
    → now ≡ old ++ write_below fields blank ts 0 n → next ≡ now ++ write (fields n) (get_or ts n blank) → next ≡ old ++ write_below fields blank ts 0 (n + 1)
written-more fields blank ts n old now next so_far is =
    let at : n ≡ 0 + n = omega arith in
    is ∙ ap (λ (xs : List ℕ). xs ++ write (fields n) (get_or ts n blank)) so_far
    ∙ append_assoc old (write_below fields blank ts 0 n) (write (fields n) (get_or ts n blank))
    ∙ ap (λ (m : ℕ). old ++ (write_below fields blank ts 0 n ++ write (fields m) (get_or ts m blank))) at
    ∙ ap (λ (xs : List ℕ). old ++ xs) (sym (write-more fields blank ts 0 n))

-- the first k blocks are written, and for each there is a fact
pub record AreWritten {F B T : Type 0} (fields : ℕ → List (Field F B T)) (blank : T) (Fact : T → Type 0) (ts : List T) (old now : List ℕ) (k : ℕ) : Type 0 where
  pub written : now ≡ old ++ write_below fields blank ts 0 k
  pub fits : (j : ℕ) → j < k → Fact (get_or ts j blank)

pub written-none : {F B T : Type 0} (fields : ℕ → List (Field F B T)) (blank : T) (Fact : T → Type 0) (ts : List T) (old : List ℕ)
    → AreWritten fields blank Fact ts old old 0
written-none fields blank Fact ts old = record { written = sym (append-nil old); fits = λ j less. absurd (omega arith) }

pub written-one : {F B T : Type 0} {fields : ℕ → List (Field F B T)} {blank : T} {Fact : T → Type 0} {ts : List T} {old now : List ℕ} {k : ℕ} {next : List ℕ}
    → AreWritten fields blank Fact ts old now k → next ≡ now ++ write (fields k) (get_or ts k blank) → Fact (get_or ts k blank)
    → AreWritten fields blank Fact ts old next (k + 1)
written-one {fields = fields} {blank = blank} {ts = ts} {old = old} {now = now} {k = k} {next = next} so_far is fact = record {
  written = written-more fields blank ts k old now next so_far.written is;
  fits = below_more _ k so_far.fits fact;
}

-- places that hold what is read, and after them the blank
pub read-places : {F B T : Type 0} (fields : ℕ → List (Field F B T)) (blank : T) (s : ℕ) → AreOfSize fields s → (k n all place : ℕ) (bytes : List ℕ) (ts : List T)
    → length ts ≡ all → n ≤ all → ((j : ℕ) → j < n → get_or ts j blank ≡ read (fields (k + j)) (place + s * j) bytes blank)
    → ((j : ℕ) → n ≤ j → j < all → get_or ts j blank ≡ blank) → ts ≡ read_below fields blank k n place bytes ++ replicate (all - n) blank
read-places fields blank s size k zero all place bytes ts len few each rest =
    ext_get_or blank ts (replicate (all - 0) blank) (len ∙ sym (length-replicate (all - 0) blank ∙ omega arith))
    (λ (i : ℕ) (h : i < length ts). rest i (omega arith) (omega (arith, len)) ∙ sym (get_or-replicate (all - 0) i blank blank (omega (arith, len))))
read-places fields blank s size k (suc n) all place bytes [] len few each rest = absurd (omega (arith, len))
read-places {T = T} fields blank s size k (suc n) all place bytes (t ∷ ts) len few each rest =
    let here : k + 0 ≡ k = omega arith in
    let start : place + s * 0 ≡ place = omega arith in
    let less : all - 1 - n ≡ all - suc n = omega arith in
    let next : place + s ≡ place + size_of (fields k) = ap (λ (m : ℕ). place + m) (sym (size k)) in
    (λ i. (each 0 (omega arith) ∙ (λ j. read (fields (here j)) (start j) bytes blank)) i
    ∷ (read-places fields blank s size (suc k) n (all - 1) (place + s) bytes ts (omega (arith, len)) (omega arith)
    (λ (j : ℕ) (h : j < n).
    let at : k + suc j ≡ suc k + j = omega arith in
    let to : place + s * suc j ≡ place + s + s * j = omega arith in
    each (suc j) (omega arith) ∙ (λ l. read (fields (at l)) (to l) bytes blank))
    (λ (j : ℕ) (h : n ≤ j) (less : j < all - 1). rest (suc j) (omega arith) (omega arith))) i)
    ∙ (λ i. read (fields k) place bytes blank ∷ (read_below fields blank (suc k) n (next i) bytes ++ replicate (less i) blank))

pub size-below : {F B T : Type 0} (fields : ℕ → List (Field F B T)) (s : ℕ) → AreOfSize fields s → (k n : ℕ) → size_below fields k n ≡ s * n
size-below fields s size k zero = omega arith
size-below fields s size k (suc n) = let ih = size-below fields s size (suc k) n in let one = size k in omega (arith, ih, one)

-- rows of one value each
pub row-more : {A : Type 0} (c : Code A) (d : A) (n : ℕ) (xs : List A) → n < length xs → row_bytes c (n + 1) xs ≡ row_bytes c n xs ++ c.bytes (get_or xs n d)
unfolding row_bytes
row-more c d n [] less = absurd (omega (arith, less))
row-more c d zero (x ∷ xs) less = append-nil (c.bytes x)
row-more c d (suc n) (x ∷ xs) less =
    let more : suc n + 1 ≡ suc (n + 1) = omega arith in
    ap (λ (m : ℕ). row_bytes c m (x ∷ xs)) more ∙ ap (λ (ys : List ℕ). c.bytes x ++ ys) (row-more c d n xs (omega (arith, less)))
    ∙ sym (append_assoc (c.bytes x) (row_bytes c n xs) (c.bytes (get_or xs n d)))

pub row-places : {A : Type 0} (c : Code A) (blank : A) (n all place : ℕ) (bytes : List ℕ) (xs : List A) → length xs ≡ all → n ≤ all
    → ((j : ℕ) → j < n → get_or xs j blank ≡ c.value (place + c.size * j) bytes) → ((j : ℕ) → n ≤ j → j < all → get_or xs j blank ≡ blank)
    → xs ≡ row_value c n place bytes ++ replicate (all - n) blank
unfolding row_value
row-places c blank zero all place bytes xs len few each rest =
    ext_get_or blank xs (replicate (all - 0) blank) (len ∙ sym (length-replicate (all - 0) blank ∙ omega arith))
    (λ (i : ℕ) (h : i < length xs). rest i (omega arith) (omega (arith, len)) ∙ sym (get_or-replicate (all - 0) i blank blank (omega (arith, len))))
row-places c blank (suc n) all place bytes [] len few each rest = absurd (omega (arith, len))
row-places {A = A} c blank (suc n) all place bytes (x ∷ xs) len few each rest =
    let start : place + c.size * 0 ≡ place = omega arith in
    let less : all - 1 - n ≡ all - suc n = omega arith in
    (λ i. (each 0 (omega arith) ∙ ap (λ (k : ℕ). c.value k bytes) start) i
    ∷ row-places c blank n (all - 1) (place + c.size) bytes xs (omega (arith, len)) (omega arith)
    (λ (j : ℕ) (h : j < n). let to : place + c.size * suc j ≡ place + c.size + c.size * j = omega arith in
    each (suc j) (omega arith) ∙ ap (λ (k : ℕ). c.value k bytes) to)
    (λ (j : ℕ) (h : n ≤ j) (less : j < all - 1). rest (suc j) (omega arith) (omega arith)) i)
    ∙ (λ i. c.value place bytes ∷ (row_value c n (place + c.size) bytes ++ replicate (less i) blank))

-- the first fault of n blocks is that of those from k on: the first k have none
pub record FaultsFrom {F B T : Type 0} (fields : ℕ → List (Field F B T)) (blank : T) (s : ℕ) (b : B) (ts : List T) (n place : ℕ) (bytes : List ℕ) (k : ℕ)
    : Type 0 where
  pub same : fault_below fields blank b ts 0 n place bytes ≡ fault_below fields blank b ts k (n - k) (place + s * k) bytes

faults-next : {F B T : Type 0} (fields : ℕ → List (Field F B T)) (blank : T) (s : ℕ) → AreOfSize fields s → (b : B) (ts : List T) (k n place : ℕ)
    (bytes : List ℕ) → k < n
    → fault_below fields blank b ts k (n - k) (place + s * k) bytes
    ≡ option_or (fault_in (fields k) b (get_or ts k blank) (place + s * k) bytes)
    (fault_below fields blank b ts (k + 1) (n - (k + 1)) (place + s * (k + 1)) bytes)
faults-next fields blank s size b ts k n place bytes less =
    let all : n - k ≡ suc (n - (k + 1)) = omega arith in
    let one : suc k ≡ k + 1 = omega arith in
    let at : place + s * k + size_of (fields k) ≡ place + s * (k + 1) = ap (λ (m : ℕ). place + s * k + m) (size k) ∙ omega arith in
    ap (λ (m : ℕ). fault_below fields blank b ts k m (place + s * k) bytes) all
    ∙ (λ i. option_or (fault_in (fields k) b (get_or ts k blank) (place + s * k) bytes) (fault_below fields blank b ts (one i) (n - (k + 1)) (at i) bytes))

-- block k has a fault, which is the first, or none; after the last block there is none
pub faults-some : {F B T : Type 0} {fields : ℕ → List (Field F B T)} {blank : T} {s : ℕ} {b : B} {ts : List T} {n place : ℕ} {bytes : List ℕ} {k : ℕ}
    (size : AreOfSize fields s) → FaultsFrom fields blank s b ts n place bytes k → k < n → (at : ℕ) → at ≡ place + s * k → (fault : F)
    → Some fault ≡ fault_in (fields k) b (get_or ts k blank) at bytes → Some fault ≡ option_or (fault_below fields blank b ts 0 n place bytes) None
faults-some {F = F} {fields = fields} {blank = blank} {s = s} {b = b} {ts = ts} {n = n} {place = place} {bytes = bytes} {k = k} size so_far less at here fault is =
    let later : Option F = fault_below fields blank b ts (k + 1) (n - (k + 1)) (place + s * (k + 1)) bytes in
    let found : fault_in (fields k) b (get_or ts k blank) (place + s * k) bytes ≡ Some fault =
    ap (λ (p : ℕ). fault_in (fields k) b (get_or ts k blank) p bytes) (sym here) ∙ sym is in
    sym (ap (λ (o : Option F). option_or o None)
    (so_far.same ∙ faults-next fields blank s size b ts k n place bytes less ∙ ap (λ (o : Option F). option_or o later) found))

pub faults-none : {F B T : Type 0} {fields : ℕ → List (Field F B T)} {blank : T} {s : ℕ} {b : B} {ts : List T} {n place : ℕ} {bytes : List ℕ} {k : ℕ}
    (size : AreOfSize fields s) → FaultsFrom fields blank s b ts n place bytes k → k < n → (at : ℕ) → at ≡ place + s * k
    → None ≡ fault_in (fields k) b (get_or ts k blank) at bytes → FaultsFrom fields blank s b ts n place bytes (k + 1)
faults-none {F = F} {fields = fields} {blank = blank} {s = s} {b = b} {ts = ts} {n = n} {place = place} {bytes = bytes} {k = k} size so_far less at here is =
    let later : Option F = fault_below fields blank b ts (k + 1) (n - (k + 1)) (place + s * (k + 1)) bytes in
    let none : fault_in (fields k) b (get_or ts k blank) (place + s * k) bytes ≡ None =
    ap (λ (p : ℕ). fault_in (fields k) b (get_or ts k blank) p bytes) (sym here) ∙ sym is in
    record { same = so_far.same ∙ faults-next fields blank s size b ts k n place bytes less ∙ ap (λ (o : Option F). option_or o later) none }

-- item i of those that are read
pub read_below-at : {F B T : Type 0} (fields : ℕ → List (Field F B T)) (blank : T) (s : ℕ) → AreOfSize fields s → (k n place : ℕ) (bytes : List ℕ)
    (others : List T) (i : ℕ) → i < n
    → get_or (read_below fields blank k n place bytes ++ others) i blank ≡ read (fields (k + i)) (place + s * i) bytes blank
read_below-at fields blank s size k zero place bytes others i less = absurd (omega arith)
read_below-at fields blank s size k (suc n) place bytes others zero less =
    let at : k ≡ k + 0 = omega arith in
    let start : place ≡ place + s * 0 = omega arith in
    λ i. read (fields (at i)) (start i) bytes blank
read_below-at fields blank s size k (suc n) place bytes others (suc i) less =
    let at : suc k + i ≡ k + suc i = omega arith in
    let to : place + size_of (fields k) + s * i ≡ place + s * suc i = ap (λ (m : ℕ). place + m + s * i) (size k) ∙ omega arith in
    read_below-at fields blank s size (suc k) n (place + size_of (fields k)) bytes others i (omega arith)
    ∙ (λ j. read (fields (at j)) (to j) bytes blank)

-- a list of n places, of which the first k are filled and the others blank
pub record IsFilled {A : Type 0} (f : ℕ → A) (blank : A) (xs : List A) (k n : ℕ) : Type 0 where
  pub places : length xs ≡ n
  pub each : (j : ℕ) → j < k → get_or xs j blank ≡ f j
  pub rest : (j : ℕ) → k ≤ j → j < n → get_or xs j blank ≡ blank

pub filled-none : {A : Type 0} (f : ℕ → A) (blank : A) (n : ℕ) → IsFilled f blank (replicate n blank) 0 n
filled-none f blank n = record {
  places = length-replicate n blank;
  each = λ j less. absurd (omega arith);
  rest = λ j le less. get_or-replicate n j blank blank less;
}

pub filled-more : {A : Type 0} (f : ℕ → A) (blank v : A) (xs : List A) (k n : ℕ) → IsFilled f blank xs k n → k < n → v ≡ f k
    → IsFilled f blank (set xs k v) (k + 1) n
filled-more f blank v xs k n filled less is = record {
  places = length-set xs k v ∙ filled.places;
  each = below_more (λ (j : ℕ). get_or (set xs k v) j blank ≡ f j) k
      (λ (j : ℕ) (h : j < k). let other : j ≡ k → ⊥ = λ (e : j ≡ k). omega arith in get_or-set_other xs k j v blank other ∙ filled.each j h)
      (get_or-set_same xs k v blank (omega (arith, less, filled.places)) ∙ is);
  rest = λ j le small.
      let other : j ≡ k → ⊥ = λ (e : j ≡ k). omega arith in get_or-set_other xs k j v blank other ∙ filled.rest j (omega arith) small;
}

-- items that are read into their places, and values
pub read-filled : {F B T : Type 0} (fields : ℕ → List (Field F B T)) (blank : T) (s : ℕ) → AreOfSize fields s → (n all place : ℕ) (bytes : List ℕ) (ts : List T)
    (k : ℕ) → k ≡ n → n ≤ all → IsFilled (λ (j : ℕ). read (fields j) (place + s * j) bytes blank) blank ts k all
    → ts ≡ read_below fields blank 0 n place bytes ++ replicate (all - n) blank
read-filled fields blank s size n all place bytes ts k end few filled =
    read-places fields blank s size 0 n all place bytes ts filled.places few
    (λ j less. let at : j ≡ 0 + j = omega arith in filled.each j (omega (arith, end)) ∙ ap (λ (m : ℕ). read (fields m) (place + s * j) bytes blank) at)
    (λ j le. filled.rest j (omega (arith, end)))

pub row-filled : {A : Type 0} (c : Code A) (blank : A) (n all place : ℕ) (bytes : List ℕ) (xs : List A) (k : ℕ) → k ≡ n → n ≤ all
    → IsFilled (λ (j : ℕ). c.value (place + c.size * j) bytes) blank xs k all → xs ≡ row_value c n place bytes ++ replicate (all - n) blank
row-filled c blank n all place bytes xs k end few filled =
    row-places c blank n all place bytes xs filled.places few (λ j less. filled.each j (omega (arith, end))) (λ j le. filled.rest j (omega (arith, end)))

-- the places after the first n, where all others are blank
pub drop-blank : {A : Type 0} (blank : A) (n all : ℕ) (xs : List A) → length xs ≡ all → n ≤ all → ((j : ℕ) → n ≤ j → j < all → get_or xs j blank ≡ blank)
    → drop n xs ≡ replicate (all - n) blank
drop-blank blank n all xs len few rest =
    let drops : length (drop n xs) ≡ all - n = length-drop n xs ∙ omega (arith, len) in
    ext_get_or blank (drop n xs) (replicate (all - n) blank) (drops ∙ sym (length-replicate (all - n) blank))
    (λ (i : ℕ) (h : i < length (drop n xs)).
    get_or-drop n xs i blank ∙ rest (n + i) (omega arith) (omega (arith, drops)) ∙ sym (get_or-replicate (all - n) i blank blank (omega (arith, drops))))

pub get_or-blank : {A : Type 0} (blank : A) (m i : ℕ) → get_or (replicate m blank) i blank ≡ blank
get_or-blank blank zero zero = refl
get_or-blank blank zero (suc i) = refl
get_or-blank blank (suc m) zero = refl
get_or-blank blank (suc m) (suc i) = get_or-blank blank m i

-- after the items and the values that are read all places are blank
pub read_below-after : {F B T : Type 0} (fields : ℕ → List (Field F B T)) (blank : T) (k n place : ℕ) (bytes : List ℕ) (m i : ℕ) → n ≤ i
    → get_or (read_below fields blank k n place bytes ++ replicate m blank) i blank ≡ blank
read_below-after fields blank k zero place bytes m i le = get_or-blank blank m i
read_below-after fields blank k (suc n) place bytes m zero le = absurd (omega arith)
read_below-after fields blank k (suc n) place bytes m (suc i) le = read_below-after fields blank (suc k) n (place + size_of (fields k)) bytes m i (omega arith)

pub row_value-after : {A : Type 0} (c : Code A) (blank : A) (n place : ℕ) (bytes : List ℕ) (m i : ℕ) → n ≤ i
    → get_or (row_value c n place bytes ++ replicate m blank) i blank ≡ blank
unfolding row_value
row_value-after c blank zero place bytes m i le = get_or-blank blank m i
row_value-after c blank (suc n) place bytes m zero le = absurd (omega arith)
row_value-after c blank (suc n) place bytes m (suc i) le = row_value-after c blank n (place + c.size) bytes m i (omega arith)

-- how many places there are
pub length-read_below : {F B T : Type 0} (fields : ℕ → List (Field F B T)) (blank : T) (k n all place : ℕ) (bytes : List ℕ) → n ≤ all
    → length (read_below fields blank k n place bytes ++ replicate (all - n) blank) ≡ all
length-read_below fields blank k zero all place bytes le = length-replicate (all - 0) blank ∙ omega arith
length-read_below fields blank k (suc n) all place bytes le =
    let less : all - suc n ≡ all - 1 - n = omega arith in
    let rest = length-read_below fields blank (suc k) n (all - 1) (place + size_of (fields k)) bytes (omega arith) in
    ap (λ (m : ℕ). suc (length (read_below fields blank (suc k) n (place + size_of (fields k)) bytes ++ replicate m blank))) less
    ∙ omega (arith, rest, le)

pub length-row_value : {A : Type 0} (c : Code A) (blank : A) (n all place : ℕ) (bytes : List ℕ) → n ≤ all
    → length (row_value c n place bytes ++ replicate (all - n) blank) ≡ all
unfolding row_value
length-row_value c blank zero all place bytes le = length-replicate (all - 0) blank ∙ omega arith
length-row_value c blank (suc n) all place bytes le =
    let less : all - suc n ≡ all - 1 - n = omega arith in
    let rest = length-row_value c blank n (all - 1) (place + c.size) bytes (omega arith) in
    ap (λ (m : ℕ). suc (length (row_value c n (place + c.size) bytes ++ replicate m blank))) less ∙ omega (arith, rest, le)
