-- Lemmas on events that come at most one a step.
use Rattle.std.proofs.Common.{
  ◌≡◌,
  ℕ,
  zero,
  suc,
  ◌+◌,
  ◌-◌,
  ◌<◌,
  ◌≤◌,
  ◌↔◌,
  Bool,
  true,
  false,
  cond,
  ltb,
  ◌&&◌,
  Option,
  Some,
  None,
  is_some,
  refl,
  sym,
  ap,
  ◌∙◌,
  inl,
  inr,
  arith,
}
use Rattle.std.proofs.lemmas.Bool.{cases_lt, cases_order, lt-ltb, le-ltb}
use Rattle.clk_units.specs.Events.{CountsUp, IsFirst, first_more}
use Rattle.clk_units.specs.Pulses.{pulses_by, falls_at, pulses_from, time_of}
use Rattle.clk_units.proofs.Pulses.{pulses_from-zero, pulses_from-more, pulses_from-mono, pulses_from-joins, le-pulses_by, time_of-le}

-- more steps, no fewer events
pub CountsUp-mono : (count : ℕ → ℕ) → CountsUp count → (m n : ℕ) → m ≤ n → count m ≤ count n
CountsUp-mono count up m zero h = let e : m ≡ 0 = omega arith in rw e (omega arith)
CountsUp-mono count up m (suc n) h = elim (cases_lt n m) [
  | inl past ↦ let e : m ≡ suc n = omega arith in rw e (omega arith)
  | inr before ↦ omega (arith, CountsUp-mono count up m n before, up.keeps n)
]

-- at most one a step
pub CountsUp-few : (count : ℕ → ℕ) → CountsUp count → (n : ℕ) → count n ≤ n
CountsUp-few count up zero = omega (arith, up.none)
CountsUp-few count up (suc n) = omega (arith, CountsUp-few count up n, up.few n)

-- a count that goes up by one where a test holds counts up
pub CountsUp-by_test : (count : ℕ → ℕ) (test : ℕ → Bool) → count 0 ≡ 0 → ((n : ℕ) → count (suc n) ≡ cond (test n) (suc (count n)) (count n)) → CountsUp count
CountsUp-by_test count test none more = record {
  none = none;
  keeps = λ n. rw (more n) (keeps (test n) (count n));
  few = λ n. rw (more n) (few (test n) (count n));
}
  where
    keeps : (b : Bool) (x : ℕ) → x ≤ cond b (suc x) x
    keeps true x = omega arith
    keeps false x = omega arith

    few : (b : Bool) (x : ℕ) → cond b (suc x) x ≤ suc x
    few true x = omega arith
    few false x = omega arith

-- a first event stays the first
pub IsFirst-past : (count : ℕ → ℕ) (n k : ℕ) → IsFirst count n (Some k) → IsFirst count (suc n) (Some k)
IsFirst-past count n k h = (h.0, omega arith, h.2, h.3)

-- a step that brings one, where none came before
pub IsFirst-begun : (count : ℕ → ℕ) (n : ℕ) → count (suc n) ≡ suc (count n) → IsFirst count n None → IsFirst count (suc n) (Some (suc n))
IsFirst-begun count n more h =
    let e : suc n - 1 ≡ n = omega arith in
    (omega arith, omega arith, ap count e ∙ h, omega arith)

-- one step more
pub IsFirst-more : (count : ℕ → ℕ) (n : ℕ) (event : Bool) (first : Option ℕ) → count (suc n) ≡ cond event (suc (count n)) (count n)
    → IsFirst count n first → IsFirst count (suc n) (first_more first n event)
IsFirst-more count n event (Some k) more h = IsFirst-past count n k h
IsFirst-more count n true None more h = IsFirst-begun count n more h
IsFirst-more count n false None more h = more ∙ h

-- there is at most one first
pub IsFirst-one : (count : ℕ → ℕ) → CountsUp count → (n : ℕ) (a b : Option ℕ) → IsFirst count n a → IsFirst count n b → a ≡ b
IsFirst-one count up n None None f g = refl
IsFirst-one count up n None (Some k) f g = absurd (omega (arith, CountsUp-mono count up k n g.1, g.3))
IsFirst-one count up n (Some k) None f g = absurd (omega (arith, CountsUp-mono count up k n f.1, f.3))
IsFirst-one count up n (Some k) (Some j) f g = ap Some (elim (cases_order k j) [
  | inl same ↦ same
  | inr other ↦ elim other [
    | inl less ↦ absurd (omega (arith, CountsUp-mono count up k (j - 1) (omega arith), f.3, g.2))
    | inr more ↦ absurd (omega (arith, CountsUp-mono count up j (k - 1) (omega arith), g.3, f.2))
  ]
])

-- at the pulses of a clock the events still count up
pub counts-at : (count : ℕ → ℕ) (hz t : ℕ) → hz ≤ 1000000000 → CountsUp count → CountsUp (λ j. count (pulses_from hz t j))
counts-at count hz t slow up = record {
  none = ap count (pulses_from-zero hz t) ∙ up.none;
  keeps = λ n. rw (pulses_from-more hz t n slow) (keeps (falls_at hz (t + n + 1)) (pulses_from hz t n));
  few = λ n. rw (pulses_from-more hz t n slow) (few (falls_at hz (t + n + 1)) (pulses_from hz t n));
}
  where
    keeps : (b : Bool) (x : ℕ) → count x ≤ count (cond b (suc x) x)
    keeps true x = up.keeps x
    keeps false x = omega arith

    few : (b : Bool) (x : ℕ) → count (cond b (suc x) x) ≤ suc (count x)
    few true x = up.few x
    few false x = omega arith

-- an event has come exactly from the time of the first on ..
pub first_tick : (count : ℕ → ℕ) (hz t n k : ℕ) → 0 < hz → CountsUp count → IsFirst count (pulses_from hz t n) (Some k)
    → (j : ℕ) → (0 < count (pulses_from hz t j)) ↔ (time_of hz (pulses_by hz t + k) ≤ t + j)
first_tick count hz t n k runs up first j = (forth, back)
  where
    joins : pulses_from hz t j + pulses_by hz t ≡ pulses_by hz (t + j)
    joins = pulses_from-joins hz t j

    forth : 0 < count (pulses_from hz t j) → time_of hz (pulses_by hz t + k) ≤ t + j
    forth h = elim (cases_lt (pulses_from hz t j) k) [
      | inl early ↦ absurd (omega (arith, CountsUp-mono count up (pulses_from hz t j) (k - 1) (omega arith), first.2))
      | inr late ↦ time_of-le hz (pulses_by hz t + k) (t + j) runs (omega (arith, joins))
    ]

    back : time_of hz (pulses_by hz t + k) ≤ t + j → 0 < count (pulses_from hz t j)
    back h =
        let reached : pulses_by hz t + k ≤ pulses_by hz (t + j) = le-pulses_by hz (pulses_by hz t + k) (t + j) runs h in
        omega (arith, CountsUp-mono count up k (pulses_from hz t j) (omega (arith, joins)), first.3)

-- or none has
pub first_tick-none : (count : ℕ → ℕ) (hz t n : ℕ) → CountsUp count → IsFirst count (pulses_from hz t n) None → (j : ℕ) → j ≤ n
    → count (pulses_from hz t j) ≡ 0
first_tick-none count hz t n up none j h = omega (arith, CountsUp-mono count up (pulses_from hz t j) (pulses_from hz t n) (pulses_from-mono hz t j n h))

-- there is a first exactly where there are events
pub is_some-first : (count : ℕ → ℕ) → CountsUp count → (n : ℕ) (first : Option ℕ) → IsFirst count n first → is_some first ≡ ltb 0 (count n)
is_some-first count up n None is = sym (le-ltb 0 (count n) (omega (arith, is)))
is_some-first count up n (Some k) is = sym (lt-ltb 0 (count n) (omega (arith, CountsUp-mono count up k n is.1, is.3)))

-- a count of events grows in the nanosecond at which a pulse falls that brings one
pub count-step : (count : ℕ → ℕ) (test : ℕ → Bool) (hz t n : ℕ) → hz ≤ 1000000000 → ((m : ℕ) → count (suc m) ≡ cond (test m) (suc (count m)) (count m))
    → ltb (count (pulses_from hz t n)) (count (pulses_from hz t (suc n))) ≡ (falls_at hz (t + n + 1) && test (pulses_from hz t n))
count-step count test hz t n slow more = rw (pulses_from-more hz t n slow) (by_fall (falls_at hz (t + n + 1)) (pulses_from hz t n))
  where
    grows : (b : Bool) (m : ℕ) → ltb m (cond b (suc m) m) ≡ b
    grows true m = lt-ltb m (suc m) (omega arith)
    grows false m = le-ltb m m (omega arith)

    by_fall : (x : Bool) (m : ℕ) → ltb (count m) (count (cond x (suc m) m)) ≡ (x && test m)
    by_fall true m = ap (ltb (count m)) (more m) ∙ grows (test m) (count m)
    by_fall false m = le-ltb (count m) (count m) (omega arith)

-- .. where the events are counted at all
pub count_where-step : (b : Bool) (count : ℕ → ℕ) (test : ℕ → Bool) (hz t n : ℕ) → hz ≤ 1000000000
    → ((m : ℕ) → count (suc m) ≡ cond (test m) (suc (count m)) (count m))
    → ltb (cond b (count (pulses_from hz t n)) 0) (cond b (count (pulses_from hz t (suc n))) 0) ≡
    (falls_at hz (t + n + 1) && (test (pulses_from hz t n) && b))
count_where-step true count test hz t n slow more =
    count-step count test hz t n slow more ∙ ap (λ (x : Bool). falls_at hz (t + n + 1) && x) (and_true (test (pulses_from hz t n)))
  where
    and_true : (x : Bool) → x ≡ (x && true)
    and_true true = refl
    and_true false = refl
count_where-step false count test hz t n slow more = le-ltb 0 0 (omega arith) ∙ none (falls_at hz (t + n + 1)) (test (pulses_from hz t n))
  where
    none : (x y : Bool) → false ≡ (x && (y && false))
    none true true = refl
    none true false = refl
    none false y = refl

-- the state of a device at the pulses of a clock
pub times-step : {X : Type 0} (times : ℕ → X) (next : X → X) (hz t n : ℕ) → hz ≤ 1000000000 → ((m : ℕ) → times (suc m) ≡ next (times m))
    → times (pulses_from hz t (suc n)) ≡ cond (falls_at hz (t + n + 1)) (next (times (pulses_from hz t n))) (times (pulses_from hz t n))
times-step times next hz t n slow more = rw (pulses_from-more hz t n slow) (by_fall (falls_at hz (t + n + 1)) (pulses_from hz t n))
  where
    by_fall : (x : Bool) (m : ℕ) → times (cond x (suc m) m) ≡ cond x (next (times m)) (times m)
    by_fall true m = more m
    by_fall false m = refl
