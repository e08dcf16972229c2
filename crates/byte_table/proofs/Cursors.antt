-- Loops over blocks of one size, read and checked from where a cursor stands.
use Rattle.std.proofs.Common.{◌≡◌, ℕ, ◌+◌, ◌*◌, ◌<◌, List, get_or, set, replicate, Some, None, refl, ap, ◌∙◌, arith}
use Rattle.std.specs.Option.{option_or}
use Rattle.byte_table.specs.Fold.{Field, fault_in, fault_below}
use Rattle.byte_table.specs.Reading.{IsPast, Passes}
use Rattle.byte_table.specs.declared.fields.Fields.{Fields}
use Rattle.byte_table.proofs.Loops.{AreOfSize, IsFilled, filled-none, filled-more, FaultsFrom, faults-some, faults-none}

-- one part after another
pub past-past : {m n : ℕ} {old now next : Fields} → IsPast m old now → IsPast n now next → IsPast (m + n) old next
past-past first later = record { bytes = later.bytes ∙ first.bytes; place = omega (arith, first.place, later.place) }

pub passes-same : {m n : ℕ} {old now : Fields} → m ≡ n → Passes m old now → Passes n old now
passes-same same passes = record { past = record { bytes = passes.past.bytes; place = omega (arith, same, passes.past.place) }; there = passes.there }

-- the first k of `all` places are filled, item k by what is read at its place
pub record AreRead {A : Type 0} (value : ℕ → ℕ → List ℕ → A) (blank : A) (s all : ℕ) (old now : Fields) (xs : List A) (k : ℕ) : Type 0 where
  pub past : IsPast (s * k) old now
  pub filled : IsFilled (λ (j : ℕ). value j (old.place + s * j) old.bytes.now) blank xs k all

pub read-none : {A : Type 0} (value : ℕ → ℕ → List ℕ → A) (blank : A) (s all : ℕ) (old : Fields) → AreRead value blank s all old old (replicate all blank) 0
read-none value blank s all old = record { past = record { bytes = refl; place = omega arith }; filled = filled-none _ blank all }

pub read-one : {A : Type 0} {value : ℕ → ℕ → List ℕ → A} {blank v : A} {s all : ℕ} {old now next : Fields} {xs : List A} {k : ℕ}
    → AreRead value blank s all old now xs k → k < all → v ≡ value k now.place now.bytes.now → IsPast s now next
    → AreRead value blank s all old next (set xs k v) (k + 1)
read-one {value = value} {blank = blank} {v = v} {all = all} {xs = xs} {k = k} so_far less is past = record {
  past = record { bytes = past.bytes ∙ so_far.past.bytes; place = omega (arith, past.place, so_far.past.place) };
  filled = filled-more _ blank v xs k all so_far.filled less (is ∙ (λ i. value k (so_far.past.place i) (so_far.past.bytes i)));
}

-- the first k of n blocks are passed, and have no fault
pub record ArePassed {F B T : Type 0} (fields : ℕ → List (Field F B T)) (blank : T) (s : ℕ) (b : B) (ts : List T) (n : ℕ) (old now : Fields) (k : ℕ)
    : Type 0 where
  pub passes : Passes (s * k) old now
  pub none : FaultsFrom fields blank s b ts n old.place old.bytes.now k

pub passed-one : {F B T : Type 0} {fields : ℕ → List (Field F B T)} {blank : T} {s : ℕ} {b : B} {ts : List T} {n : ℕ} {old now next : Fields} {k : ℕ}
    → AreOfSize fields s → ArePassed fields blank s b ts n old now k → k < n → None ≡ fault_in (fields k) b (get_or ts k blank) now.place now.bytes.now
    → Passes s now next → ArePassed fields blank s b ts n old next (k + 1)
passed-one {fields = fields} {blank = blank} {b = b} {ts = ts} {now = now} {k = k} size so_far less is passes =
    let past = so_far.passes.past in
    record {
      passes = record {
        past = record { bytes = passes.past.bytes ∙ past.bytes; place = omega (arith, passes.past.place, past.place) };
        there = passes.there;
      };
      none = faults-none size so_far.none less now.place past.place
          (is ∙ ap (λ (xs : List ℕ). fault_in (fields k) b (get_or ts k blank) now.place xs) past.bytes);
    }

-- the fault of block k is the first
pub passed-some : {F B T : Type 0} {fields : ℕ → List (Field F B T)} {blank : T} {s : ℕ} {b : B} {ts : List T} {n : ℕ} {old now : Fields} {k : ℕ} {fault : F}
    → AreOfSize fields s → ArePassed fields blank s b ts n old now k → k < n → Some fault ≡ fault_in (fields k) b (get_or ts k blank) now.place now.bytes.now
    → Some fault ≡ option_or (fault_below fields blank b ts 0 n old.place old.bytes.now) None
passed-some {fields = fields} {blank = blank} {b = b} {ts = ts} {now = now} {k = k} {fault = fault} size so_far less is =
    let past = so_far.passes.past in
    faults-some size so_far.none less now.place past.place fault
    (is ∙ ap (λ (xs : List ℕ). fault_in (fields k) b (get_or ts k blank) now.place xs) past.bytes)
