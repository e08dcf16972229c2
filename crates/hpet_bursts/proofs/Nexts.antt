-- The first message of all timers is the earliest of each one's.
use Rattle.std.proofs.Common.{◌≡◌, ℕ, zero, suc, ◌+◌, ◌≤◌, ◌<◌, Bool, true, false, cond, leb, ◌||◌, List, [], ◌∷◌, ◌++◌, Option, Some, None, refl, ap, ◌∙◌, arith}
use Rattle.std.proofs.lemmas.Bool.{le-leb, lt-leb}
use Rattle.hpet_registers.specs.declared.parts.HpetParts.{HpetParts}
use Rattle.hpet_bursts.specs.Messages.{message_at, message_times}
use Rattle.hpet_bursts.specs.Bursts.{burst_from, burst_in}
use Rattle.std.specs.Option.{option_or}
use Rattle.hpet_bursts.specs.Next.{first_where, sends_below}
use Rattle.hpet_bursts.specs.private.Earlier.{first_of, earlier}

-- no time at all is found among no timers
pub never : (t n : ℕ) (h : HpetParts) → None ≡ first_where (sends_below 0 t h) t n
unfolding first_where sends_below
never t zero h = refl
never t (suc n) h = ap (λ (x : Option ℕ). option_or x None) (never t n h)

-- a time that is found isn't after the last nanosecond
IsUpTo : ℕ → Option ℕ → Type 0
IsUpTo u None = Unit {0}
IsUpTo u (Some x) = x ≤ u

found-up_to : (test : ℕ → Bool) (t n : ℕ) → IsUpTo (t + n) (first_where test t n)
unfolding first_where IsUpTo
found-up_to test t zero = tt
found-up_to test t (suc n) = by (first_where test t n) (test n) (found-up_to test t n)
  where
    by : (a : Option ℕ) (b : Bool) → IsUpTo (t + n) a → IsUpTo (t + suc n) (option_or a (cond b (Some (t + n + 1)) None))
    by (Some x) b up_to = omega (arith, up_to)
    by None true up_to = omega arith
    by None false up_to = tt

-- the earlier of two times so far, and then both tests at one more
one-more : (a b : Option ℕ) (x y : Bool) (u v : ℕ) → IsUpTo v a → IsUpTo v b → v < u
    → earlier (option_or a (cond x (Some u) None)) (option_or b (cond y (Some u) None)) ≡ option_or (earlier a b) (cond (x || y) (Some u) None)
unfolding earlier IsUpTo
one-more None None true true u v h k less = same (leb u u)
  where
    same : (b : Bool) → cond b (Some u) (Some u) ≡ Some u
    same true = refl
    same false = refl
one-more None None true false u v h k less = refl
one-more None None false true u v h k less = refl
one-more None None false false u v h k less = refl
one-more (Some a) None x true u v h k less = ap (λ (b : Bool). cond b (Some a) (Some u)) (le-leb a u (omega (arith, h, less)))
one-more (Some a) None x false u v h k less = refl
one-more None (Some b) true y u v h k less = ap (λ (c : Bool). cond c (Some u) (Some b)) (lt-leb u b (omega (arith, k, less)))
one-more None (Some b) false y u v h k less = refl
one-more (Some a) (Some b) x y u v h k less = found (leb a b)
  where
    found : (c : Bool) → cond c (Some a) (Some b) ≡ option_or (cond c (Some a) (Some b)) (cond (x || y) (Some u) None)
    found true = refl
    found false = refl

-- what is found first of two tests
earlier-where : (p q : ℕ → Bool) (t n : ℕ) → earlier (first_where p t n) (first_where q t n) ≡ first_where (λ i. p i || q i) t n
unfolding first_where earlier
earlier-where p q t zero = refl
earlier-where p q t (suc n) =
    one-more (first_where p t n) (first_where q t n) (p n) (q n) (t + n + 1) (t + n) (found-up_to p t n) (found-up_to q t n) (omega arith)
    ∙ ap (λ (x : Option ℕ). option_or x (cond (p n || q n) (Some (t + n + 1)) None)) (earlier-where p q t n)

-- a timer's first message is that of its burst
first-of_burst : (k t n : ℕ) (h : HpetParts) → first_of (burst_in k t n h) ≡ first_where (λ i. message_at k t i h) t n
unfolding first_where
first-of_burst k t zero h = refl
first-of_burst k t (suc n) h =
    by (message_times k t n h) (message_at k t n h)
    ∙ ap (λ (x : Option ℕ). option_or x (cond (message_at k t n h) (Some (t + n + 1)) None)) (first-of_burst k t n h)
  where
    by : (ts : List ℕ) (b : Bool) → first_of (burst_from k h (ts ++ cond b ((t + n + 1) ∷ []) []))
        ≡ option_or (first_of (burst_from k h ts)) (cond b (Some (t + n + 1)) None)
    by [] true = refl
    by [] false = refl
    by (x ∷ ts) b = refl

-- one timer more
pub next-more : (k t n : ℕ) (h : HpetParts) (next : Option ℕ) (first : Option ℕ) → next ≡ first_where (sends_below k t h) t n
    → first ≡ first_of (burst_in k t n h) → earlier next first ≡ first_where (sends_below (k + 1) t h) t n
unfolding sends_below
next-more k t n h next first before this =
    ap (λ (x : Option ℕ). earlier x first) before
    ∙ ap (earlier (first_where (sends_below k t h) t n)) (this ∙ first-of_burst k t n h)
    ∙ earlier-where (sends_below k t h) (λ i. message_at k t i h) t n
    ∙ ap (λ (j : ℕ). first_where (sends_below j t h) t n) (let e : suc k ≡ k + 1 = omega arith in e)
